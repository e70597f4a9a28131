-- `packing::Fragments::fill_table` meets its contract. The loop's invariant: the records of the fragments before i stand in the table, and the next row starts at cell i × n.
use mathlib.Core.Path.{sym, ap, ◌∙◌}
use Prim.Native.Nat.{ℕ, ◌+◌, ◌*◌, ◌-◌, ◌≤◌, ◌<◌}
use native.Mathlib.Omega.{arith}
use native.Mathlib.Nat.{zero-mul, add-sub_cancel_left}
use lib.ListN.{length, get_or}
use Rattle.fields.specs.Writing.{record_of, row_of}
use Rattle.below.proofs.RowLaws.{row_next}
use borrow.Rule.Slice.PartMut.{same_len_mid, mid_len}
use Rattle.packing.proofs.PackLaws.{record-written, laid_none, laid_more, laid-all}
use Rattle.packing.proofs.FragmentLaws.{row-record, row-writable, kept-grade, kept_small, kept-narrow}
use Rattle.packing.proofs.SizeLaws.{pack-n, pack-m, pack-row}
use Rattle.packing.proofs.packing.Fragments.fill_table.Goals as goal
use Rattle.packing.proofs.packing.Fragments.fill_table.Goals.{After-byte}

-- the turn's row lies within the cells
row_in : (c : After-byte) → c.loop-i.first + c.args.self.n ≤ length c.args.self.cells.now
row_in c =
    let e = c.loop-i.invariant.1 in
    let r = pack-row c.args.self.sized c.loop-i.i (omega arith) in
    omega arith

pub loop-i-init : goal.loop-i-init
loop-i-init c =
    (laid_none _ _ _ _ _ c.requires.table_len, sym (zero-mul _))

pub overflow_mul-to : goal.overflow_mul-to
overflow_mul-to c =
    let h = pack-m c.args.self.sized in omega arith

pub overflow_add-first : goal.overflow_add-first
overflow_add-first c = let r = row_in (goal.at.overflow_add-first c).After-byte in omega arith

pub slice_bounds-write_record-end : goal.slice_bounds-write_record-end
slice_bounds-write_record-end c = row_in (goal.at.slice_bounds-write_record-end c).After-byte

pub overflow_add-to : goal.overflow_add-to
overflow_add-to c =
    let h = pack-m c.args.self.sized in omega arith

pub slice_bounds-write_record-end-in-loop-i : goal.slice_bounds-write_record-end-in-loop-i
slice_bounds-write_record-end-in-loop-i c =
    let loop = c.loop-i in
    let s = loop.invariant.0.sized in omega arith

pub overflow_add-first-in-loop-i : goal.overflow_add-first-in-loop-i
overflow_add-first-in-loop-i c =
    let r = row_in (goal.at.overflow_add-first-in-loop-i c).After-byte in omega arith

pub loop-i-preserved : goal.loop-i-preserved
loop-i-preserved c =
    let l = c.loop-i in
    let a = c.args in
    let pre = c.requires in
    let h : l.i < length a.self.tags.now = omega arith in
    let long = l.invariant.0.sized in
    let low = kept-grade pre.fragments_kept l.i h in
    let graded = c.byte.ensures in
    let w = c.write_record in (
      laid_more a.self.n a.self.cells.now a.self.tags.now a.self.grades.now a.table.now l.i l.invariant.0 h
          (same_len_mid (32 * l.i) (32 * l.i + 32 - 32 * l.i) l.table w.new.record w.auto.record)
          (record-written w.ensures
          (mid_len (32 * l.i) (32 * l.i + 32) l.table (omega arith) ∙ add-sub_cancel_left (32 * l.i) 32)
          (row-writable a.self.n a.self.cells.now l.i l.invariant.1 (row_in (goal.at.loop-i-preserved c).After-byte) (omega arith) (pack-n a.self.sized) (kept_small pre.fragments_kept l.i h) (kept-narrow pre.fragments_kept l.i h))
          ∙ row-record a.self.n a.self.cells.now l.i l.invariant.1 (row_in (goal.at.loop-i-preserved c).After-byte) _ _
          ∙ ap (λ (g : ℕ). record_of a.self.n (get_or a.self.tags.now l.i 0) g (row_of a.self.n a.self.cells.now l.i)) graded),
      row_next l.i a.self.n l.invariant.1,
    )

pub shape_of-table : goal.shape_of-table
shape_of-table c =
    c.loop-i.invariant.0.sized ∙ sym c.requires.table_len

pub returns : goal.returns
returns c =
    laid-all _ _ _ _ _ c.requires.table_len c.loop-i.i c.loop-i.table c.loop-i.invariant.0 (omega arith)
