-- `calls::correct_kept` meets its contract.
-- Assumes nothing.
use mathlib.Core.Path.{◌∙◌}
use native.Mathlib.Omega.{arith}
use Rattle.records.proofs.AcceptedLaws.{sized-m}
use Rattle.stages.proofs.StageLaws.{correction-answer, correction-output}
use Rattle.matrix.proofs.KeptLaws.{table-matrix}
use Rattle.correcting.proofs.TableCorrectionLaws.{table-deep, table-shallow, correction-deep, correction-accepts}
use Rattle.correcting.proofs.calls.correct_kept.Goals as goal

pub fill_spans-requires : goal.fill_spans-requires
fill_spans-requires c = table-matrix c.args.table.sized.sizes c.fill_matrix.ensures

pub first_deep-requires : goal.first_deep-requires
first_deep-requires c = sized-m c.args.table.sized.sizes

pub returns-in-Some : goal.returns-in-Some
returns-in-Some c =
    let found = c.in-Some.ensures in
    rw c.at.ensures (correction-deep _ _ _ _ _ c.requires (found.1 ∙ table-deep c.args.table.sized.sizes c.fill_matrix.ensures c.fill_spans.ensures) found.0)

pub invariant_of-shallow : goal.invariant_of-shallow
invariant_of-shallow c = record {
  cells_value = c.fill_matrix.ensures;
  spanned = c.fill_spans.ensures;
  shallow = table-shallow c.args.table.sized.sizes c.fill_matrix.ensures c.fill_spans.ensures c.in_default.ensures;
}

pub correct-total-requires : goal.correct-total-requires
correct-total-requires c = (correction-answer _ _ _ _ _ _ c.requires.kept, correction-output _ _ _ _ _ _ c.requires.kept)

pub returns : goal.returns
returns c =
    let none = c.in_default.ensures in
    let done = c.correct-total.ensures in
    let column = table-deep c.args.table.sized.sizes c.fill_matrix.ensures c.fill_spans.ensures in
    correction-accepts _ _ _ _ _ c.requires (omega arith) done.total (c.fill.ensures.after (λ y h. h)) done.answer done.corrected
