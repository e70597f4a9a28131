-- `unpacking::fill` meets its contract. The invariant: the rows, the tags and the grades before fragment i are written, and the next row starts at cell i × n.
-- Assumes nothing.
use mathlib.Core.Path.{◌≡◌}
use Prim.Native.Nat.{◌*◌}
use lib.ListN.{get_or}
use Rattle.fields.specs.Record.{tag_of, grade_of}
use Rattle.fields.specs.Table.{fragments, record_bytes_at, unpacked_cells}
use Rattle.below.proofs.FillLaws.{Filled}
use Rattle.packing.proofs.unpacking.fill.Given as goal

abbrev pub invariant-loop-i : goal.invariant-loop-i
invariant-loop-i l = Filled (fragments l.table * l.n) (λ k. get_or (unpacked_cells l.n l.table) k 0) l.first l.cells
    × (l.first ≡ l.i * l.n)
    × Filled (fragments l.table) (λ j. tag_of (record_bytes_at l.table j)) l.i l.tags
    × Filled (fragments l.table) (λ j. grade_of (record_bytes_at l.table j)) l.i l.grades
