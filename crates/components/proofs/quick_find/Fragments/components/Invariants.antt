-- `quick_find::Fragments::components` meets its contract. The invariant is the state after the rows passed.
-- Assumes nothing.
use Prim.Native.Nat.{◌*◌}
use Rattle.components.specs.Algorithm.Components.{Passed}
use Rattle.components.proofs.quick_find.Fragments.components.Given as goal

abbrev pub invariant-loop-i : goal.invariant-loop-i
invariant-loop-i l = Passed l.self (l.i * 128) l.sides l.labels
