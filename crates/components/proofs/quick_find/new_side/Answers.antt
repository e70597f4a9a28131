-- `quick_find::new_side` meets its contract.
-- Assumes nothing.
use mathlib.Core.Path.{sym, ap, ◌∙◌}
use mathlib.Core.Bool.{Bool}
use Rattle.components.specs.Algorithm.Components.{side_turned}
use Rattle.below.proofs.TestLaws.{if-eq, if-ne}
use Rattle.components.proofs.quick_find.new_side.Goals as goal
use Rattle.components.proofs.quick_find.new_side.Goals.{else-x-hi-via-then-x-hi+else-turn, else-x-hi-via-else-x-hi}

pub returns-then-turn : goal.returns-then-turn
returns-then-turn c =
    c.saturating_sub.ensures ∙ sym (if-eq _ _ c.if-x-hi.true ∙ ap (λ (b : Bool). side_turned b c.args.side) c.if-turn.true)

pub returns-else-x-hi : goal.returns-else-x-hi
returns-else-x-hi c =
    elim c.else-x-hi.branch [
      | else-x-hi-via-then-x-hi+else-turn w ↦ sym (if-eq _ _ w.if-x-hi.true ∙ ap (λ (b : Bool). side_turned b c.args.side) w.if-turn.false)
      | else-x-hi-via-else-x-hi w ↦ sym (if-ne _ _ w.if-x-hi.false)
    ]
