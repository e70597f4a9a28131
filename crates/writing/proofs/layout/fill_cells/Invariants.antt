-- `layout::fill_cells` meets its contract. The loop's invariant: the first b bytes are those of the cells.
-- Assumes nothing.
use Rattle.below.proofs.FillLaws.{Filled}
use Rattle.fields.specs.Writing.{codes_of}
use Rattle.writing.proofs.LayoutLaws.{cell_byte_of}
use Rattle.writing.proofs.layout.fill_cells.Given as goal

abbrev pub invariant-loop-b : goal.invariant-loop-b
invariant-loop-b l = Filled 24 (cell_byte_of (codes_of l.calls)) l.b l.cells
