use lib.ListN.{length}
use Rattle.fields.specs.Record.{cell_of}
use Rattle.below.proofs.FillLaws.{Filled}
use Rattle.fields.proofs.rows.write_cells.Given as goal

abbrev pub invariant-loop-c : goal.invariant-loop-c
invariant-loop-c l = Filled (length l.initial.row) (cell_of l.part) l.c l.row
