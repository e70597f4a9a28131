-- `cells::fill_matrix` meets its contract. The invariant: the rows passed hold their cells.
use Rattle.std.specs.Prelude.{if◌then◌else◌}
use borrow.Author.Rules.{rules}
use borrow.Rule.Slice.PartMut.{put_mid, same_len_mid, mid_len}
use mathlib.Core.Path.{◌≡◌, ap, subst, ◌∙◌}
use Prim.Native.Nat.{ℕ, ◌+◌, ◌*◌, ◌-◌}
use native.Mathlib.Nat.{add-sub_cancel_left}
use native.Mathlib.Omega.{arith}
use Rattle.below.specs.Below.{◌<?◌, tab}
use Rattle.fields.specs.Record.{code_at}
use Rattle.below.proofs.FillLaws.{Filled, filled_none, filled-part, filled-all}
use Rattle.below.proofs.RowLaws.{tab-ext}
use Rattle.matrix.specs.Algorithm.Cells.{table_cells}
use Rattle.matrix.proofs.CellLaws.{table_cell, table-row}
use Rattle.matrix.proofs.cells.fill_matrix.Goals as goal

pub loop-i-init : goal.loop-i-init
loop-i-init c = filled_none 16384 _ _ c.requires

pub slice_bounds-fill_row-end : goal.slice_bounds-fill_row-end
slice_bounds-fill_row-end c = let e = c.loop-i.invariant.sized in omega arith

pub loop-i-preserved : goal.loop-i-preserved
loop-i-preserved c =
    let record-at = c.record_at in
    let w = c.fill_row in
    let r = record-at in
    let l = c.loop-i in
    let a = c.args in
    let s = l.invariant.sized in
    let from = 128 * l.i in
    let e : from + 128 ≡ 128 * (l.i + 1) = omega arith in
    let long = mid_len from (from + 128) l.cells (omega arith) ∙ add-sub_cancel_left from 128 in
    subst (λ (k : ℕ). Filled 16384 (table_cell a.n a.table.now) k (put_mid from (from + 128 - from) l.cells w.new.row)) e
    (filled-part 16384 _ from 128 l.cells w.new.row l.invariant (omega arith) (same_len_mid from (from + 128 - from) l.cells w.new.row w.auto.row)
    (w.ensures ∙ ap (λ (k : ℕ). tab k (λ q. if q <? a.n then code_at r.result.now q else 0)) long ∙ tab-ext 128 _ _ (λ q h. table-row a.n a.table l.i q r.result r.ensures h)))

pub shape_of-cells : goal.shape_of-cells
shape_of-cells c = let e = c.loop-i.invariant.sized in search rules

pub returns : goal.returns
unfolding table_cells
returns c = filled-all 16384 _ (128 * c.loop-i.i) c.loop-i.cells c.loop-i.invariant (omega arith)
