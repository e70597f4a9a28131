use Rattle.records.specs.Rules.{table_verdict}
use mathlib.Core.Path.{sym, ◌∙◌}
use Rattle.records.proofs.OutcomeLaws.{passed_on}
use Rattle.records.proofs.RuleLaws.{decide-append, decide-accepted, decide-refused}
use Rattle.records.proofs.rules.table_fault.Goals as goal

pub returns-in_err-size_fault : goal.returns-in_err-size_fault
unfolding table_verdict
returns-in_err-size_fault c = passed_on _ _ c.from_residual.ensures ∙ sym (decide-append _ _ _ ∙ decide-refused _ _ _ _ _ (sym c.in_err-size_fault.ensures))

pub returns : goal.returns
unfolding table_verdict
returns c = c.records_fault.ensures ∙ sym (decide-append _ _ _ ∙ decide-accepted _ _ _ _ (sym c.in_ok-size_fault.ensures))
