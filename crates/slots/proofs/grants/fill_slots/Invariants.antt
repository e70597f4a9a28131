-- `grants::fill_slots` meets its contract. The loop's invariant: the fragments that start at a column passed have their slots.
-- Assumes nothing.
use Prim.Native.Nat.{◌+◌, ◌*◌}
use Rattle.matrix.specs.Algorithm.Matrix.{matrix_grid}
use Rattle.slots.specs.Algorithm.Spans.{Granted}
use Rattle.slots.proofs.grants.fill_slots.Given as goal

abbrev pub invariant-loop-c : goal.invariant-loop-c
invariant-loop-c l = Granted (matrix_grid l.m l.n l.cells) (l.c * 256 + 0) l.slots
