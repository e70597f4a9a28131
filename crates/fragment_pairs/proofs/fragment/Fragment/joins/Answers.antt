-- `Fragment::joins` meets its contract.
-- Assumes nothing.
use mathlib.Core.Path.{refl}
use Rattle.below.specs.Below.{◌<?◌}
use Rattle.conflicts.specs.Choice.{marked}
use Rattle.fragment_pairs.proofs.fragment.Fragment.joins.Goals as goal

pub returns : goal.returns
unfolding marked ◌<?◌
returns c = refl
