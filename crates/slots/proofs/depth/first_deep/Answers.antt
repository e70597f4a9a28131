-- `depth::first_deep` meets its contract. The loop's invariant: no column passed is covered by more than 8 fragments.
use mathlib.Core.Path.{sym, subst, ◌∙◌}
use Prim.Native.Nat.{ℕ, ◌≤◌, ◌<◌}
use native.Mathlib.Omega.{arith}
use Rattle.below.proofs.SearchLaws.{none_more, first-hit, first-none, <?-true, <?-false}
use Rattle.slots.specs.Algorithm.Spans.{deep_by}
use Rattle.slots.proofs.DepthLaws.{counted-spans}
use Rattle.slots.proofs.depth.first_deep.Goals as goal

pub returns-then-covering-gt8 : goal.returns-then-covering-gt8
unfolding deep_by
returns-then-covering-gt8 c =
    let l = c.loop-c in
    let a = c.args in
    (c.loop-c-test.true, sym (first-hit a.n _ l.c c.loop-c-test.true l.invariant (<?-true 8 _ (subst (λ (x : ℕ). 8 < x) (c.covering.ensures ∙ counted-spans a.spans.now l.c a.m (omega arith)) c.if-covering-gt8.true))))

pub loop-c-preserved : goal.loop-c-preserved
loop-c-preserved c =
    let l = c.loop-c in
    let a = c.args in
    none_more l.c _ l.invariant (<?-false 8 _ (subst (λ (x : ℕ). x ≤ 8) (c.covering.ensures ∙ counted-spans a.spans.now l.c a.m (omega arith)) c.if-covering-gt8.false))

pub returns : goal.returns
unfolding deep_by
returns c = let l = c.loop-c in first-none _ _ l.c (omega arith) l.invariant
