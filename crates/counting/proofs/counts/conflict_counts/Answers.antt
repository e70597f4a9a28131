-- `counts::conflict_counts` meets its contract.
-- Assumes nothing.
use mathlib.Core.Path.{◌∙◌}
use Rattle.records.proofs.OutcomeLaws.{passed_on}
use Rattle.counting.proofs.CountingLaws.{counts-sizes, counts-refuses, counts-mean}
use Rattle.counting.proofs.counts.conflict_counts.Goals as goal

pub returns-in_err-table : goal.returns-in_err-table
returns-in_err-table c =
    let a = c.args in
    let r = counts-refuses a.n a.table.now a.counts.now _ _ (counts-sizes _ _ _ _ _ c.in_err-table.ensures) in
    let e = passed_on _ _ c.from_residual.ensures in
    record { outcome = e ∙ r.0; counts = r.1; meaning = counts-mean _ _ _ (e ∙ r.0) r.1 }

pub returns : goal.returns
returns c =
    let r = rw (c.in_ok-table.ensures.columns, c.in_ok-table.ensures.same) at c.counts_sized.ensures in
    record { outcome = r.outcome; counts = r.counts; meaning = counts-mean _ _ _ r.outcome r.counts }
