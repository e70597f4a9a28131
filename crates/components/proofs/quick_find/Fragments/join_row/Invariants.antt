-- `quick_find::Fragments::join_row` meets its contract. The invariant is the state after the pairs passed.
-- Assumes nothing.
use Prim.Native.Nat.{◌+◌, ◌*◌}
use Rattle.components.specs.Algorithm.Components.{Passed}
use Rattle.components.proofs.quick_find.Fragments.join_row.Given as goal

abbrev pub invariant-loop-j : goal.invariant-loop-j
invariant-loop-j l = Passed l.self (l.i * 128 + l.j) l.sides l.labels
