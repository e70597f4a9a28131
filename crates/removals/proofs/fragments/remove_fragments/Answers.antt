-- `fragments::remove_fragments` meets its contract.
-- Assumes nothing.
use Prim.Native.Nat.{ℕ}
use lib.ListN.{length, length-replicate}
use mathlib.Core.Path.{ap, ◌∙◌}
use native.Mathlib.Omega.{arith}
use Rattle.records.specs.Algorithm.Kept.{GaplessKept}
use Rattle.records.proofs.AcceptedLaws.{gapless-records, sized-n, sized-m}
use Rattle.conflicts.specs.Choice.{zeros}
use Rattle.conflicts.proofs.MarkLaws.{all-kept-part}
use Rattle.conflicts.proofs.SideLaws.{all-length}
use Rattle.masks.proofs.RecordLaws.{kept-letters}
use Rattle.masks.proofs.TableLaws.{words-masks, words-gapless, words-rising, words-fragment}
use Rattle.removals.proofs.TableRemovalLaws.{table-fragment-answer}
use Rattle.removals.proofs.fragments.remove_fragments.Goals as goal

pub slice_bounds-frags-end : goal.slice_bounds-frags-end
slice_bounds-frags-end c =
    let e = ap length c.all_kept-frags.ensures ∙ length-replicate {A = ℕ} 128 1 in let h = sized-m c.args.table.sized.sizes in omega arith

pub fragment_keep_marks-count-requires : goal.fragment_keep_marks-count-requires
fragment_keep_marks-count-requires c =
    let t = c.args.table.sized in
    let gapless : GaplessKept t.n t.bytes.now = record { count = _; kept = c.args.table.records } in
    let kept = gapless-records gapless in
    let are = c.fill_masks.ensures t.n (kept-letters kept) in
    let h = c.requires.in_bounds in
    let long = ap length (all-kept-part t.m _ (sized-m t.sizes) c.all_kept-frags.ensures) ∙ all-length t.m in
    (sized-m t.sizes, sized-n t.sizes, words-masks t.sizes kept are, words-gapless t.sizes kept are gapless, words-rising t.sizes kept are, omega arith, long)

pub slice_bounds-phase-end : goal.slice_bounds-phase-end
slice_bounds-phase-end c =
    let e = ap length c.all_kept-cols.ensures ∙ length-replicate {A = ℕ} 128 1 in let h = sized-n c.args.table.sized.sizes in omega arith

pub phase-requires : goal.phase-requires
phase-requires c =
    let t = c.args.table.sized in (
      record {
        few = sized-m t.sizes;
        narrow = sized-n t.sizes;
        columns = ap length (all-kept-part t.n _ (sized-n t.sizes) c.all_kept-cols.ensures) ∙ all-length t.n;
        fragments = c.fragment_keep_marks-count.auto.keep ∙ ap length (all-kept-part t.m _ (sized-m t.sizes) c.all_kept-frags.ensures) ∙ all-length t.m;
      },
      c.requires.answer_len,
    )

pub returns : goal.returns
returns c =
    let t = c.args.table.sized in
    let gapless : GaplessKept t.n t.bytes.now = record { count = _; kept = c.args.table.records } in
    let kept = gapless-records gapless in
    let are = c.fill_masks.ensures t.n (kept-letters kept) in
    let e = c.fragment_keep_marks-count.ensures in
    let cols = all-kept-part t.n _ (sized-n t.sizes) c.all_kept-cols.ensures in
    record { count = e.1 ∙ ap zeros (words-fragment t.sizes kept are); work = e.2; answer = table-fragment-answer t.sizes kept are cols e.0 c.phase.ensures }
