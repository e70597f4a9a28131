use mathlib.Core.Path.{ap, ◌∙◌}
use Rattle.places.specs.Algorithm.Places.{occupied}
use Rattle.records.proofs.spans.unknown_call.Goals as goal

pub returns : goal.returns
returns c = c.any.ensures ∙ ap occupied c.both.ensures
