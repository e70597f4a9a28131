use mathlib.Core.Path.{refl, sym, ◌∙◌}
use native.Mathlib.Omega.{arith}
use Rattle.fields.specs.Table.{fragments}
use Rattle.records.proofs.OutcomeLaws.{passed_on}
use Rattle.records.proofs.RuleLaws.{rows-begin, rows_end, row_kept, row-broken}
use Rattle.records.proofs.rules.first_fault.Goals as goal

pub loop-i-init : goal.loop-i-init
unfolding fragments
loop-i-init c = (refl, rows-begin _ _ _)

pub returns-in_err-record_fault : goal.returns-in_err-record_fault
returns-in_err-record_fault c =
    let lp = c.loop-i in
    passed_on _ _ c.from_residual.ensures ∙ sym (lp.invariant.1 ∙ row-broken _ _ lp.i _ 0 _ _ (omega arith) (sym c.in_err-record_fault.ensures))

pub loop-i-preserved : goal.loop-i-preserved
loop-i-preserved c =
    let lp = c.loop-i in
    (lp.invariant.0, lp.invariant.1 ∙ row_kept _ _ lp.i _ 0 _ (omega arith) (sym c.in_ok-record_fault.ensures))

pub returns : goal.returns
unfolding fragments
returns c = sym (c.loop-i.invariant.1 ∙ rows_end _ _ c.loop-i.i _ (omega arith))
