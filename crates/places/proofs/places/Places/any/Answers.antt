-- `places::Places::any` meets its contract.
-- Assumes nothing.
use mathlib.Core.Path.{refl}
use Rattle.places.specs.Algorithm.Places.{occupied}
use Rattle.places.proofs.places.Places.any.Goals as goal

pub returns : goal.returns
unfolding occupied
returns c = refl
