-- `packing::Fragments::fragment_fault` meets its contract.
-- Assumes nothing.
use mathlib.Core.Path.{sym, ap, ◌∙◌}
use Prim.Native.Nat.{ℕ}
use Rattle.records.proofs.RuleLaws.{rule-broken, rule-kept}
use Rattle.below.specs.Below.{◌<?◌}
use Rattle.below.proofs.SearchLaws.{<?-true, <?-false}
use Rattle.conflicts.specs.Services.{fragment_rules}
use Rattle.packing.proofs.packing.Fragments.fragment_fault.Goals as goal

pub returns-then-byte-gt15 : goal.returns-then-byte-gt15
unfolding fragment_rules
returns-then-byte-gt15 c = rw c.at.ensures (sym (rule-broken _ _ _ (ap (λ (g : ℕ). 15 <? g) (sym c.byte.ensures) ∙ <?-true _ _ c.if-byte-gt15.true)))

pub returns : goal.returns
unfolding fragment_rules
returns c = c.ungraded_fault.ensures ∙ sym (rule-kept _ _ _ (ap (λ (g : ℕ). 15 <? g) (sym c.byte.ensures) ∙ <?-false _ _ c.if-byte-gt15.false))
