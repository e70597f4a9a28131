use Prim.Native.Nat.{◌*◌}
use lib.ListN.{length}
use Rattle.fields.specs.Record.{cell_of}
use Rattle.below.proofs.FillLaws.{Filled}
use Rattle.fields.proofs.rows.write_bytes.Given as goal

abbrev pub invariant-loop-b : goal.invariant-loop-b
invariant-loop-b l = Filled (length l.initial.row) (cell_of l.part) (4 * l.b) l.row
