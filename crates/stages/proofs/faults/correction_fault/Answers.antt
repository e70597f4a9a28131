-- `stages::correction_fault` meets its contract.
-- Assumes nothing.
use mathlib.Core.Path.{sym, ◌∙◌}
use Rattle.records.proofs.OutcomeLaws.{passed_on}
use Rattle.stages.proofs.StageLaws.{correction-lent, correction-length, correction-records}
use Rattle.stages.proofs.faults.correction_fault.Goals as goal

pub returns-in_err-lent_fault : goal.returns-in_err-lent_fault
returns-in_err-lent_fault c = passed_on _ _ c.from_residual.ensures ∙ sym (correction-lent _ _ _ _ _ _ _ (sym c.in_err-lent_fault.ensures))

pub returns-then-corrected-table : goal.returns-then-corrected-table
returns-then-corrected-table c = rw c.at.ensures (sym (correction-length _ _ _ _ _ _ (sym c.in_ok-lent_fault.ensures) c.if-corrected-table.true))

pub returns : goal.returns
returns c = c.records_fault.ensures ∙ sym (correction-records _ _ _ _ _ _ (sym c.in_ok-lent_fault.ensures) c.if-corrected-table.false)
