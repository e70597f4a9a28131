-- `counts::copy_rows` meets its contract. The invariant: the rows before fragment i stand in the counts, and the next one starts at i × m.
use mathlib.Core.Path.{sym, ap, ◌∙◌}
use Prim.Native.Nat.{ℕ, ◌+◌, ◌*◌, ◌-◌, ◌≤◌}
use native.Mathlib.Omega.{arith}
use native.Mathlib.Nat.{zero-mul, add-sub_cancel_left, mul-le-mul_right}
use lib.ListN.{length, take, drop}
use borrow.Rule.Slice.PartMut.{same_len_mid, mid_len}
use Rattle.below.specs.Below.{tab, nth}
use Rattle.below.proofs.FillLaws.{filled_none, filled-part, filled-all}
use Rattle.below.proofs.RowLaws.{tab-ext, part-again, tab-again, row_within, row_next}
use Rattle.counting.specs.Algorithm.Rows.{rows_of}
use Rattle.counting.proofs.CountingLaws.{rows-length, rows_at}
use Rattle.counting.proofs.counts.copy_rows.Goals as goal
use Rattle.counting.proofs.counts.copy_rows.Goals.{In-loop-i}

-- the turn's row lies within the counts
row_in : (c : In-loop-i) → c.loop-i.first + c.args.m ≤ c.args.m * c.args.m
row_in c =
    let a = c.args in
    let e = c.loop-i.invariant.1 in
    let r = row_within a.m a.m c.loop-i.i c.loop-i-test.true in
    omega arith

-- and the one that is copied within the matrix
copied_in : (c : In-loop-i) → c.loop-i.i * 128 + c.args.m ≤ length c.args.matrix.now
copied_in c =
    let few = c.requires.0 in
    let long = c.requires.1 in
    omega (arith, c.loop-i-test.true)

pub loop-i-init : goal.loop-i-init
loop-i-init c = (filled_none _ _ _ c.requires.2, sym (zero-mul _))

pub overflow_add-first : goal.overflow_add-first
overflow_add-first c = let r = row_in (goal.at.overflow_add-first c).In-loop-i in let s = c.loop-i.invariant.0.sized in omega arith

pub slice_bounds-copy_from_slice-end : goal.slice_bounds-copy_from_slice-end
slice_bounds-copy_from_slice-end c = let r = row_in (goal.at.slice_bounds-copy_from_slice-end c).In-loop-i in let s = c.loop-i.invariant.0.sized in omega arith

pub slice_bounds-copy_from_slice-end-in-loop-i : goal.slice_bounds-copy_from_slice-end-in-loop-i
slice_bounds-copy_from_slice-end-in-loop-i c = copied_in (goal.at.slice_bounds-copy_from_slice-end-in-loop-i c).In-loop-i

pub copy_from_slice-requires : goal.copy_from_slice-requires
copy_from_slice-requires c =
    let l = c.loop-i in
    let a = c.args in
    mid_len l.first _ l.counts (slice_bounds-copy_from_slice-end (goal.at.copy_from_slice-requires c).In-loop-i)
    ∙ add-sub_cancel_left l.first a.m
    ∙ sym (mid_len _ _ a.matrix.now (copied_in (goal.at.copy_from_slice-requires c).In-loop-i) ∙ add-sub_cancel_left _ a.m)

pub overflow_add-first-in-loop-i : goal.overflow_add-first-in-loop-i
overflow_add-first-in-loop-i c = let r = row_in (goal.at.overflow_add-first-in-loop-i c).In-loop-i in let s = c.loop-i.invariant.0.sized in omega arith

pub loop-i-preserved : goal.loop-i-preserved
loop-i-preserved c =
    let l = c.loop-i in
    let a = c.args in
    let w = c.copy_from_slice in
    let row = l.i * 128 in (
      filled-part _ _ l.first a.m l.counts w.new.self l.invariant.0 (row_in (goal.at.loop-i-preserved c).In-loop-i) (same_len_mid l.first (l.first + a.m - l.first) l.counts w.new.self w.auto.self)
          (w.ensures.after
          ∙ ap (λ (k : ℕ). take k (drop row a.matrix.now)) (add-sub_cancel_left row a.m)
          ∙ sym (part-again 0 a.m row a.matrix.now (copied_in (goal.at.loop-i-preserved c).In-loop-i))
          ∙ tab-ext a.m _ _ (λ q h. rows_at a.m a.matrix.now l.i q l.invariant.1 c.loop-i-test.true h)),
      row_next l.i a.m l.invariant.1,
    )

pub shape_of-counts : goal.shape_of-counts
shape_of-counts c = c.loop-i.invariant.0.sized ∙ sym c.requires.2

pub returns : goal.returns
returns c =
    let l = c.loop-i in
    let a = c.args in
    let all = mul-le-mul_right a.m c.loop-i-test.false in
    let first = l.invariant.1 in
    filled-all _ _ l.first l.counts l.invariant.0 (omega arith)
    ∙ ap (λ (k : ℕ). tab k (nth (rows_of a.m a.matrix.now))) (sym (rows-length a.m a.matrix.now))
    ∙ tab-again 0 (rows_of a.m a.matrix.now)
