-- `grants::mark_slots` meets its contract. The loop's invariant: the slots of the fragments passed have their marks.
use mathlib.Core.Path.{sym, subst, ◌∙◌}
use mathlib.Core.Bool.{Bool}
use mathlib.Core.List.{List}
use Rattle.slots.specs.Algorithm.Spans.{Marks}
use Rattle.slots.proofs.GrantLaws.{marks-none, marks-pass, marks-more}
use Rattle.slots.proofs.grants.mark_slots.Goals.{then-entered, else-entered}
use Rattle.slots.proofs.grants.mark_slots.Goals as goal

pub loop-x-init : goal.loop-x-init
loop-x-init c =
    let a = c.args in
    subst (λ (l : List Bool). Marks 0 a.spans.now a.slots.now a.c a.turn l) (sym c.requires.1) (marks-none _ _ _ _)

pub loop-x-preserved : goal.loop-x-preserved
loop-x-preserved c =
    let a = c.args in
    let l = c.loop-x in
    elim c.if-entered.branch [
      | then-entered w ↦ rw w.marks-is (marks-more a.spans.now a.slots.now a.c a.turn l.x l.marks l.invariant (sym c.entered.ensures ∙ w.if-entered.true) (c.requires.0.slots_low l.x))
      | else-entered w ↦ rw w.marks-is (marks-pass a.spans.now a.slots.now a.c a.turn l.x l.marks l.invariant (sym c.entered.ensures ∙ w.if-entered.false))
    ]
