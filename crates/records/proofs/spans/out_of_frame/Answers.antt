use mathlib.Core.Path.{◌≡◌, refl, sym, ◌∙◌}
use Prim.Native.Nat.{◌+◌}
use Rattle.below.specs.Below.{◌and◌, ◌or◌, ◌=?◌, ◌<?◌, isnt}
use Rattle.fields.specs.Record.{start_of, span_of}
use Rattle.records.specs.Rules.{is_out_of_frame}
use Rattle.below.proofs.SearchLaws.{<?-true, <?-false, =?-true, =?-false}
use Rattle.records.proofs.spans.out_of_frame.Goals as goal
use Rattle.records.proofs.spans.out_of_frame.Goals.{Joined-k-gt96, then-k-gt96, else-k-gt96}

-- the first two tests
tested : (c : Joined-k-gt96) → let a = c.args in c.if-k-gt96.value ≡ (96 <? span_of a.part.now or a.n <? start_of a.part.now + span_of a.part.now)
unfolding ◌or◌ ◌<?◌
tested c = elim c.if-k-gt96.branch [
  | then-k-gt96 w ↦ w.value-is ∙ rw (← c.span.ensures, ← c.from-k.ensures, <?-true 96 _ w.if-k-gt96.true) refl
  | else-k-gt96 w ↦ w.value-is ∙ rw (← c.span.ensures, ← c.from-k.ensures, ← c.start.ensures, ← c.from-s.ensures, <?-false 96 _ w.if-k-gt96.false) refl
]

pub returns-then-n-s : goal.returns-then-n-s
unfolding is_out_of_frame ◌or◌
returns-then-n-s c = rw (sym (tested (goal.at.returns-then-n-s c).Joined-k-gt96) ∙ c.if-n-s.true) c.if-n-s.true

pub returns-then-k-eq0 : goal.returns-then-k-eq0
unfolding is_out_of_frame ◌or◌ ◌and◌ isnt ◌=?◌
returns-then-k-eq0 c =
    rw (sym (tested (goal.at.returns-then-k-eq0 c).Joined-k-gt96) ∙ c.if-n-s.false, ← c.span.ensures, ← c.from-k.ensures, ← c.start.ensures, ← c.from-s.ensures, =?-true _ _ c.if-k-eq0.true)

pub returns-else-k-eq0 : goal.returns-else-k-eq0
unfolding is_out_of_frame ◌or◌ ◌and◌ isnt ◌=?◌
returns-else-k-eq0 c =
    rw (sym (tested (goal.at.returns-else-k-eq0 c).Joined-k-gt96) ∙ c.if-n-s.false, ← c.span.ensures, ← c.from-k.ensures, =?-false _ _ c.if-k-eq0.false)
