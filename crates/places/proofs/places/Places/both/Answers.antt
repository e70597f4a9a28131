-- `places::Places::both` meets its contract.
-- Assumes nothing.
use mathlib.Core.Path.{refl}
use Rattle.places.specs.Algorithm.Places.{both_places}
use Rattle.places.proofs.places.Places.both.Goals as goal

pub returns : goal.returns
unfolding both_places
returns c = refl
