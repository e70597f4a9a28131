use mathlib.Core.Path.{◌≡◌, sym, ap, ◌∙◌}
use Prim.Native.Nat.{ℕ}
use Rattle.below.specs.Below.{any_below, ◌=?◌}
use Rattle.fields.specs.Record.{tag_of}
use Rattle.fields.specs.Table.{record_bytes_at, tag_at}
use Rattle.records.specs.Rules.{tag_twice, earlier_rules}
use Rattle.records.proofs.RuleLaws.{rule-broken, rule-kept, decide-none}
use Rattle.records.proofs.rules.earlier_fault.Goals as goal
use Rattle.records.proofs.rules.earlier_fault.Goals.{After-any_tag}

-- the tag is record i's
twice-is : (c : After-any_tag) → let args = c.args in c.any_tag.result ≡ tag_twice (tag_at args.table.now) args.i
unfolding tag_twice
twice-is c =
    let args = c.args in
    c.any_tag.ensures ∙ ap (λ (t : ℕ). any_below args.i (λ h. tag_of (record_bytes_at args.table.now h) =? t)) (c.tag.ensures ∙ ap tag_of c.requires.1)

pub returns-then-any_tag : goal.returns-then-any_tag
unfolding earlier_rules
returns-then-any_tag c = rw c.at.ensures (sym (rule-broken _ _ _ (sym (twice-is (goal.at.returns-then-any_tag c).After-any_tag) ∙ c.if-any_tag.true)))

pub returns-then-out_of_order : goal.returns-then-out_of_order
unfolding earlier_rules
returns-then-out_of_order c = rw c.at-then-out_of_order.ensures (sym (rule-kept _ _ _ (sym (twice-is (goal.at.returns-then-out_of_order c).After-any_tag) ∙ c.if-any_tag.false) ∙ rule-broken _ _ _ (sym c.out_of_order.ensures ∙ c.if-out_of_order.true)))

pub returns : goal.returns
unfolding earlier_rules
returns c = sym (rule-kept _ _ _ (sym (twice-is (goal.at.returns c).After-any_tag) ∙ c.if-any_tag.false) ∙ rule-kept _ _ _ (sym c.out_of_order.ensures ∙ c.if-out_of_order.false) ∙ decide-none _)
