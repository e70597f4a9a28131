-- `patterns::charge` meets its contract. The loop's invariant: the masks below the counter are charged, and the others not yet.
-- Assumes nothing.
use Prim.Native.Nat.{ℕ, ◌+◌, ◌*◌}
use Rattle.below.specs.Below.{nth}
use Rattle.ranks.specs.Algorithm.Weight.{top}
use Rattle.ranks.specs.Algorithm.Tables.{Sweep}
use Rattle.ranks.specs.Algorithm.Lent.{weights_in}
use Rattle.patterns.specs.Algorithm.Patterns.{slot_cost}
use Rattle.patterns.proofs.patterns.charge.Given as goal

abbrev pub invariant-loop-mask : goal.invariant-loop-mask
invariant-loop-mask l = Sweep (λ (j : ℕ). slot_cost l.a l.b j * top + nth (weights_in l.initial.t) j) (nth (weights_in l.initial.t)) (nth (weights_in l.t)) 0 l.mask
