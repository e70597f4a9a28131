-- `grants::slot_column` meets its contract. The loop's invariant: the fragments passed have had their turn.
-- Assumes nothing.
use Prim.Native.Nat.{◌+◌, ◌*◌}
use Rattle.matrix.specs.Algorithm.Matrix.{matrix_grid}
use Rattle.slots.specs.Algorithm.Spans.{Granted}
use Rattle.slots.proofs.grants.slot_column.Given as goal

abbrev pub invariant-loop-f : goal.invariant-loop-f
invariant-loop-f l = Granted (matrix_grid l.m l.n l.cells) (l.c * 256 + l.f) l.slots
