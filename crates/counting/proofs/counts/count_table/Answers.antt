-- `counts::count_table` meets its contract.
-- Assumes nothing.
use borrow.Author.Rules.{rules}
use mathlib.Core.Path.{ap, ◌∙◌}
use Prim.Native.Nat.{ℕ}
use native.Mathlib.Omega.{arith}
use lib.ListN.{length, length-replicate}
use Rattle.records.proofs.AcceptedLaws.{sized-n, sized-m}
use Rattle.conflicts.proofs.MarkLaws.{all-kept-part}
use Rattle.counting.proofs.CountingLaws.{rows-count}
use Rattle.counting.proofs.counts.count_table.Goals as goal

pub slice_bounds-kept-end : goal.slice_bounds-kept-end
slice_bounds-kept-end c =
    let e = ap length c.all_kept-all.ensures ∙ length-replicate {A = ℕ} 128 1 in
    let h = sized-n c.args.table.sized.sizes in omega arith

pub slice_bounds-fill_pairs-end : goal.slice_bounds-fill_pairs-end
slice_bounds-fill_pairs-end c =
    let e = ap length c.all_kept-all.ensures ∙ length-replicate {A = ℕ} 128 1 in
    let h = sized-m c.args.table.sized.sizes in omega arith

pub copy_rows-requires : goal.copy_rows-requires
copy_rows-requires c = (sized-m c.args.table.sized.sizes, search rules, c.requires)

pub returns : goal.returns
returns c =
    let t = c.args.table.sized in
    let all = c.all_kept-all.ensures in
    c.copy_rows.ensures
    ∙ rows-count t.n t.m t.bytes.now t.sizes (record { count = _; kept = c.args.table.records }) c.fill_masks.ensures (all-kept-part t.n _ (sized-n t.sizes) all) (all-kept-part t.m _ (sized-m t.sizes) all)
    c.kept.ensures c.fill_pairs.ensures
