-- `calls::ShallowTable::correct` meets its contract.
-- Assumes nothing.
use mathlib.Core.Path.{sym, ◌∙◌}
use native.Mathlib.Nat.{sub-zero}
use native.Mathlib.Omega.{arith}
use borrow.Rule.Slice.PartMut.{mid_len}
use Rattle.records.specs.Algorithm.Kept.{RecordsKept}
use Rattle.records.proofs.AcceptedLaws.{sized-count, sized-n, sized-m}
use Rattle.correcting.specs.declared.calls.ShallowTable.{ShallowTable}
use Rattle.correcting.proofs.TableCorrectionLaws.{table-count, table-two-bits, sides-size, table-answered, table-records}
use Rattle.correcting.proofs.calls.ShallowTable.correct.Goals as goal

-- the table's records keep their rules
kept : (t : ShallowTable) → RecordsKept t.table.sized.n t.table.sized.bytes.now
kept t = record { count = _; kept = t.table.records }

pub slice_bounds-sides-end : goal.slice_bounds-sides-end
slice_bounds-sides-end c = let h = sized-m c.args.self.table.sized.sizes in omega arith

pub settle-total-requires : goal.settle-total-requires
settle-total-requires c =
    let t = c.args.self.table.sized in (mid_len 0 t.m _ (sized-m t.sizes) ∙ sub-zero t.m, sym c.blank_cells-fixed.ensures)

pub fill_records-requires : goal.fill_records-requires
fill_records-requires c =
    let t = c.args.self.table in
    let rules = kept c.args.self in
    let e = sized-count t.sized.sizes in
    let few = sized-m t.sized.sizes in
    let exact = c.requires.1 in
    (table-two-bits t.sized.sizes rules c.args.self.cells_value c.settle-total.ensures, omega arith, omega arith)

pub answer_sides-requires : goal.answer_sides-requires
answer_sides-requires c =
    let t = c.args.self.table in
    let rules = kept c.args.self in
    let size = sides-size t.sized.sizes rules c.args.self.cells_value c.settle-total.ensures in
    rw size (sized-n t.sized.sizes, sized-m t.sized.sizes, c.requires.0)

pub returns : goal.returns
returns c =
    let t = c.args.self.table in
    let rules = kept c.args.self in
    let same = c.args.self.cells_value in
    let settled = c.settle-total.ensures in
    let records = table-records t.sized.sizes rules same settled c.fill_records.ensures in
    record {
      total = table-count t.sized.sizes rules same settled;
      answer = table-answered t.sized.sizes rules same settled records c.answer_sides.ensures;
      corrected = records;
    }
