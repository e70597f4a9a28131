-- `lines::Line::conflicts` meets its contract.
-- Assumes nothing.
use mathlib.Core.Path.{ap₂, ◌∙◌}
use Rattle.places.specs.Algorithm.Places.{either_of, conflict_places}
use Rattle.places.proofs.lines.Line.conflicts.Goals as goal

pub returns : goal.returns
unfolding conflict_places
returns c = c.either.ensures ∙ ap₂ either_of c.both.ensures c.both-2.ensures
