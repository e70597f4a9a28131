-- `places::Places::either` meets its contract.
-- Assumes nothing.
use mathlib.Core.Path.{refl}
use Rattle.places.specs.Algorithm.Places.{either_of}
use Rattle.places.proofs.places.Places.either.Goals as goal

pub returns : goal.returns
unfolding either_of
returns c = refl
