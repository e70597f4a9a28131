-- `table::fill_records` meets its contract. The invariant: the records passed are the new ones.
-- Assumes nothing.
use Prim.Native.Nat.{◌*◌}
use Rattle.fields.specs.Table.{fragments}
use Rattle.below.proofs.FillLaws.{Filled}
use Rattle.rewriting.proofs.RewriteLaws.{new_byte_of}
use Rattle.rewriting.proofs.table.fill_records.Given as goal

abbrev pub invariant-loop-i : goal.invariant-loop-i
invariant-loop-i l = Filled (fragments l.table * 32) (new_byte_of l.table l.cells) (l.i * 32) l.output
