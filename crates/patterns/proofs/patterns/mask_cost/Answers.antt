-- `patterns::mask_cost` meets its contract.
-- Assumes nothing.
use native.Mathlib.Omega.{arith}
use Rattle.conflicts.specs.Corrections.{side_price}
use Rattle.patterns.specs.Algorithm.Patterns.{slot_cost}
use Rattle.patterns.proofs.patterns.mask_cost.Goals as goal

pub returns : goal.returns
unfolding slot_cost side_price
returns c = (omega arith, omega arith)
