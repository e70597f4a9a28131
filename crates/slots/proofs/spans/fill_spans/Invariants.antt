-- `spans::fill_spans` meets its contract. The loop's invariant: the spans of the fragments passed are written.
-- Assumes nothing.
use Prim.Native.Nat.{ℕ, ◌<◌}
use mathlib.Core.Path.{◌≡◌}
use lib.ListN.{length}
use Rattle.matrix.specs.Algorithm.Matrix.{matrix_grid}
use Rattle.slots.specs.Algorithm.Columns.{first_column, end_column_of}
use Rattle.slots.specs.Algorithm.Spans.{span_at}
use Rattle.slots.proofs.spans.fill_spans.Given as goal

abbrev pub invariant-loop-i : goal.invariant-loop-i
invariant-loop-i l = (length l.spans ≡ 128) × ((f : ℕ) → f < l.i → ((span_at l.spans f).start ≡ first_column (matrix_grid l.m l.n l.cells) f) × ((span_at l.spans f).end ≡ end_column_of (matrix_grid l.m l.n l.cells) f))
