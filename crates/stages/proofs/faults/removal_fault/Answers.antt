-- `stages::removal_fault` meets its contract.
-- Assumes nothing.
use mathlib.Core.Path.{sym, ◌∙◌}
use Rattle.records.proofs.OutcomeLaws.{passed_on}
use Rattle.stages.proofs.StageLaws.{removal-lent, removal-records}
use Rattle.stages.proofs.faults.removal_fault.Goals as goal

pub returns-in_err-lent_fault : goal.returns-in_err-lent_fault
returns-in_err-lent_fault c = passed_on _ _ c.from_residual.ensures ∙ sym (removal-lent _ _ _ _ _ _ (sym c.in_err-lent_fault.ensures))

pub returns : goal.returns
returns c = c.gapless_fault.ensures ∙ sym (removal-records _ _ _ _ _ (sym c.in_ok-lent_fault.ensures))
