-- `lines::Line::either` meets its contract.
-- Assumes nothing.
use mathlib.Core.Path.{ap₂}
use Rattle.places.specs.declared.places.Places.{Places}
use Rattle.places.specs.declared.lines.Line.{Line}
use Rattle.places.specs.Algorithm.Places.{either_line}
use Rattle.places.proofs.lines.Line.either.Goals as goal

line : Places → Places → Line
line a b = record { a = a; b = b }

pub returns : goal.returns
unfolding either_line line
returns c = ap₂ line c.either.ensures c.either-2.ensures
