-- `patterns::slot_total` meets its contract. The loop's invariant: the total is that of the slots passed.
-- Assumes nothing.
use mathlib.Core.Path.{◌≡◌}
use Rattle.below.specs.Below.{sum_below}
use Rattle.patterns.specs.Algorithm.Patterns.{slot_share}
use Rattle.patterns.proofs.patterns.slot_total.Given as goal

abbrev pub invariant-loop-b : goal.invariant-loop-b
invariant-loop-b l = l.total ≡ sum_below l.b (slot_share l.prices l.mask l.d)
