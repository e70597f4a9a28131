use mathlib.Core.Path.{sym, ◌∙◌}
use Rattle.records.specs.Algorithm.Kept.{span_rules_of}
use Rattle.records.proofs.RuleLaws.{rule-broken, rule-kept}
use Rattle.records.proofs.FaultLaws.{frame-narrow}
use Rattle.records.proofs.spans.span_fault.Goals as goal

pub returns-then-out_of_frame : goal.returns-then-out_of_frame
unfolding span_rules_of
returns-then-out_of_frame c = rw c.at.ensures (sym (rule-broken _ _ _ (sym c.out_of_frame.ensures ∙ c.if-out_of_frame.true)))

pub cells_fault-requires : goal.cells_fault-requires
cells_fault-requires c = frame-narrow _ _ (sym c.out_of_frame.ensures ∙ c.if-out_of_frame.false)

pub returns : goal.returns
unfolding span_rules_of
returns c = sym (rule-kept _ _ _ (sym c.out_of_frame.ensures ∙ c.if-out_of_frame.false) ∙ sym c.cells_fault.ensures)
