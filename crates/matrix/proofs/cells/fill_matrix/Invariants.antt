-- `cells::fill_matrix` meets its contract. The invariant: the rows passed hold their cells.
-- Assumes nothing.
use Prim.Native.Nat.{◌*◌}
use Rattle.below.proofs.FillLaws.{Filled}
use Rattle.matrix.proofs.CellLaws.{table_cell}
use Rattle.matrix.proofs.cells.fill_matrix.Given as goal

abbrev pub invariant-loop-i : goal.invariant-loop-i
invariant-loop-i l = Filled 16384 (table_cell l.n l.table) (128 * l.i) l.cells
