-- `patterns::charge` meets its contract. The loop's invariant: the masks below the counter are charged, and the others not yet.
use mathlib.Core.Path.{◌≡◌, ap, sym, subst, ◌∙◌}
use Prim.Native.Nat.{ℕ, ◌+◌, ◌*◌, zero-le}
use native.Mathlib.Omega.{arith}
use Rattle.below.specs.Below.{nth}
use Rattle.ranks.specs.Algorithm.Weight.{top}
use Rattle.ranks.specs.Algorithm.Tables.{Sweep}
use Rattle.ranks.specs.Algorithm.Lent.{weights_in}
use Rattle.ranks.proofs.TableLaws.{put_as, sweep-none, sweep-more}
use Rattle.patterns.specs.Algorithm.Patterns.{PatternRoom, slot_cost}
use Rattle.patterns.proofs.patterns.charge.Goals as goal

pub loop-mask-init : goal.loop-mask-init
loop-mask-init c = sweep-none _ _ 0

pub charged_at-charged-requires : goal.charged_at-charged-requires
charged_at-charged-requires c =
    let loop = c.loop-mask in
    let lt = c.loop-mask-test.true in
    (c.requires.0, c.requires.1, lt, subst (PatternRoom 0) (sym (loop.invariant.rest loop.mask (λ lo hi. omega arith))) (c.requires.2.room loop.mask zero-le lt))

pub loop-mask-preserved : goal.loop-mask-preserved
loop-mask-preserved c =
    let loop = c.loop-mask in
    let a = c.args in
    sweep-more zero-le loop.invariant (put_as c.put.ensures.weights (c.charged_at-charged.ensures.0 ∙ ap (λ (x : ℕ). slot_cost a.a.now a.b.now loop.mask * top + x) (loop.invariant.rest loop.mask (λ lo hi. omega arith))))

pub returns : goal.returns
returns c =
    let loop = c.loop-mask in
    let a = c.args in
    let v = nth (weights_in a.t.now) in
    let e : loop.mask ≡ 256 = omega arith in
    subst (Sweep (λ (mask : ℕ). slot_cost a.a.now a.b.now mask * top + v mask) v (nth (weights_in loop.t)) 0) e loop.invariant
