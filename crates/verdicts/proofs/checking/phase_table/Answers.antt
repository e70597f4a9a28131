-- `checking::phase_table` meets its contract.
-- Assumes nothing.
use Prim.Native.Nat.{ℕ}
use Rattle.conflicts.proofs.MarkLaws.{all-kept-part}
use Rattle.conflicts.proofs.SideLaws.{all-length}
use Rattle.verdicts.proofs.CheckLaws.{table-found}
use native.Mathlib.Omega.{arith}
use lib.ListN.{length, length-replicate}
use mathlib.Core.Path.{ap, ◌∙◌}
use Rattle.records.proofs.AcceptedLaws.{sized-n, sized-m}
use Rattle.verdicts.proofs.checking.phase_table.Goals as goal

pub slice_bounds-phase-end : goal.slice_bounds-phase-end
slice_bounds-phase-end c =
    let e = ap length c.all_kept-cols.ensures ∙ length-replicate {A = ℕ} 128 1 in
    let h = sized-n c.args.table.sized.sizes in omega arith

pub slice_bounds-phase-end-2 : goal.slice_bounds-phase-end-2
slice_bounds-phase-end-2 c =
    let e = ap length c.all_kept-frags.ensures ∙ length-replicate {A = ℕ} 128 1 in
    let h = sized-m c.args.table.sized.sizes in omega arith

pub phase-requires : goal.phase-requires
phase-requires c =
    let t = c.args.table.sized in (
      record {
        few = sized-m t.sizes;
        narrow = sized-n t.sizes;
        columns = ap length (all-kept-part t.n _ (sized-n t.sizes) c.all_kept-cols.ensures) ∙ all-length t.n;
        fragments = ap length (all-kept-part t.m _ (sized-m t.sizes) c.all_kept-frags.ensures) ∙ all-length t.m;
      },
      c.requires,
    )

pub returns : goal.returns
returns c =
    let t = c.args.table.sized in
    table-found t.sizes (record { count = _; kept = c.args.table.records }) c.fill_masks.ensures (all-kept-part t.n _ (sized-n t.sizes) c.all_kept-cols.ensures) (all-kept-part t.m _ (sized-m t.sizes) c.all_kept-frags.ensures)
    c.phase.ensures
