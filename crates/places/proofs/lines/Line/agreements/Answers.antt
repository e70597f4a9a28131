-- `lines::Line::agreements` meets its contract.
-- Assumes nothing.
use mathlib.Core.Path.{ap₂, ◌∙◌}
use Rattle.places.specs.Algorithm.Places.{either_of, agree_places}
use Rattle.places.proofs.lines.Line.agreements.Goals as goal

pub returns : goal.returns
unfolding agree_places
returns c = c.either.ensures ∙ ap₂ either_of c.both.ensures c.both-2.ensures
