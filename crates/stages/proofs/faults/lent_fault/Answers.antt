-- `stages::lent_fault` meets its contract.
-- Assumes nothing.
use mathlib.Core.Path.{sym, ◌∙◌}
use Rattle.records.proofs.OutcomeLaws.{passed_on}
use Rattle.stages.proofs.StageLaws.{lent-sizes}
use Rattle.stages.proofs.faults.lent_fault.Goals as goal

pub returns-in_err-table : goal.returns-in_err-table
returns-in_err-table c = passed_on _ _ c.from_residual.ensures ∙ sym (lent-sizes _ _ _ _ _ _ c.in_err-table.ensures)

pub returns : goal.returns
returns c = rw (c.in_ok-table.ensures.columns, c.in_ok-table.ensures.same) at c.lengths_fault.ensures
