use mathlib.Core.Path.{◌∙◌}
use Rattle.records.proofs.OutcomeLaws.{passed_on}
use Rattle.verdicts.proofs.CheckLaws.{check-sizes, check-refuses, check-means}
use Rattle.verdicts.proofs.checking.check.Goals as goal

pub returns-in_err-table : goal.returns-in_err-table
returns-in_err-table c =
    let a = c.args in
    let r = check-refuses a.n a.table.now a.answer.now _ _ (check-sizes _ _ _ _ _ c.in_err-table.ensures) in
    let e = passed_on _ _ c.from_residual.ensures in
    record { outcome = e ∙ r.0; answer = r.1; meaning = check-means _ _ _ (e ∙ r.0) r.1 }

pub returns : goal.returns
returns c =
    let r = rw (c.in_ok-table.ensures.columns, c.in_ok-table.ensures.same) at c.check_sized.ensures in
    record { outcome = r.outcome; answer = r.answer; meaning = check-means _ _ _ r.outcome r.answer }
