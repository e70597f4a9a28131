-- `unpacking::fill` meets its contract. The invariant: the rows, the tags and the grades before fragment i are written, and the next row starts at cell i × n.
use Rattle.std.specs.Prelude.{if◌then◌else◌}
use mathlib.Core.Path.{sym, ap, ◌∙◌}
use Prim.Native.Nat.{ℕ, ◌+◌, ◌*◌, ◌-◌, ◌≤◌, ◌<◌}
use native.Mathlib.Omega.{arith}
use native.Mathlib.Nat.{zero-mul, add-sub_cancel_left, mul-le-mul_right}
use lib.ListN.{get_or}
use borrow.Rule.Slice.PartMut.{same_len_mid, mid_len}
use Rattle.below.specs.Below.{◌<?◌, tab}
use Rattle.fields.specs.Record.{code_at, tag_of, grade_of}
use Rattle.fields.specs.Table.{fragments, unpacked_cells, unpacked_tags, unpacked_grades}
use Rattle.fields.proofs.PartLaws.{part-record}
use Rattle.below.proofs.FillLaws.{filled_none, filled_more, filled-part, filled-all}
use Rattle.below.proofs.RowLaws.{tab-ext, tab-again, row_within, row_next}
use Rattle.packing.proofs.UnpackLaws.{unpacked-row, unpacked-length}
use Rattle.packing.proofs.unpacking.fill.Goals as goal
use Rattle.packing.proofs.unpacking.fill.Goals.{After-record_at-part}

-- the turn's fragment is one of the m
fragment-in : (c : After-record_at-part) → c.loop-i.i < fragments c.args.table.now
fragment-in c = let e = c.loop-i.invariant.2.sized in omega arith

-- its row lies within the cells
row_in : (c : After-record_at-part) → c.loop-i.first + c.args.n ≤ fragments c.args.table.now * c.args.n
row_in c =
    let e = c.loop-i.invariant.1 in
    let a = c.args in
    let r = row_within (fragments a.table.now) a.n c.loop-i.i (fragment-in c) in
    omega arith

pub loop-i-init : goal.loop-i-init
loop-i-init c =
    let p = c.requires in
    (filled_none _ _ _ p.cells_len, sym (zero-mul _), filled_none _ _ _ p.tags_len, filled_none _ _ _ p.grades_len)

pub overflow_add-first : goal.overflow_add-first
overflow_add-first c = let r = row_in (goal.at.overflow_add-first c).After-record_at-part in let s = c.loop-i.invariant.0.sized in omega arith

pub slice_bounds-fill_row-end : goal.slice_bounds-fill_row-end
slice_bounds-fill_row-end c = let r = row_in (goal.at.slice_bounds-fill_row-end c).After-record_at-part in let s = c.loop-i.invariant.0.sized in omega arith

pub overflow_add-first-in-loop-i : goal.overflow_add-first-in-loop-i
overflow_add-first-in-loop-i c = let r = row_in (goal.at.overflow_add-first-in-loop-i c).After-record_at-part in let s = c.loop-i.invariant.0.sized in omega arith

pub loop-i-preserved : goal.loop-i-preserved
loop-i-preserved c =
    let w = c.fill_row in
    let l = c.loop-i in
    let a = c.args in
    let at = (goal.at.loop-i-preserved c).After-record_at-part in
    let end = l.first + a.n in
    let r = row_in at in
    let h = fragment-in at in
    let read = part-record _ _ _ c.record_at-part.ensures h in
    let sized = l.invariant.0.sized in
    let long = mid_len l.first end l.cells (omega arith) ∙ add-sub_cancel_left l.first a.n in (
      filled-part _ _ l.first a.n l.cells w.new.row l.invariant.0 r (same_len_mid l.first (end - l.first) l.cells w.new.row w.auto.row)
          (w.ensures
          ∙ ap (λ (k : ℕ). tab k (λ q. if q <? a.n then code_at c.record_at-part.result.now q else 0)) long
          ∙ tab-ext a.n _ _ (λ q k. unpacked-row a.n a.table l.i q c.record_at-part.result l.invariant.1 c.record_at-part.ensures h k)),
      row_next l.i a.n l.invariant.1,
      filled_more _ _ l.i l.tags _ l.invariant.2 h (c.tag.ensures ∙ ap tag_of read),
      filled_more _ _ l.i l.grades _ l.invariant.3 h (c.grade.ensures ∙ ap grade_of read),
    )

pub shape_of-cells : goal.shape_of-cells
shape_of-cells c = c.loop-i.invariant.0.sized ∙ sym c.requires.cells_len

pub shape_of-tags : goal.shape_of-tags
shape_of-tags c = c.loop-i.invariant.2.sized ∙ sym c.requires.tags_len

pub shape_of-grades : goal.shape_of-grades
shape_of-grades c = c.loop-i.invariant.3.sized ∙ sym c.requires.grades_len

pub returns : goal.returns
unfolding unpacked_tags unpacked_grades
returns c =
    let l = c.loop-i in
    let a = c.args in
    let cells = unpacked_cells a.n a.table.now in
    let h : fragments a.table.now ≤ l.i = omega (arith, l.invariant.2.sized) in
    let all = mul-le-mul_right a.n h in
    let first = l.invariant.1 in
    record {
      cells = filled-all _ _ l.first l.cells l.invariant.0 (omega arith) ∙ ap (λ (k : ℕ). tab k (λ j. get_or cells j 0)) (sym (unpacked-length a.n a.table.now)) ∙ tab-again 0 cells;
      tags = filled-all _ _ l.i l.tags l.invariant.2 h;
      grades = filled-all _ _ l.i l.grades l.invariant.3 h;
    }
