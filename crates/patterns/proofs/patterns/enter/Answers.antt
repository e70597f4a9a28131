-- `patterns::enter` meets its contract. The loop's invariant: the masks below the counter have the fragment before them, and the others not yet.
use mathlib.Core.Path.{◌≡◌, refl, sym, subst, ◌∙◌}
use Prim.Native.Nat.{zero-le}
use native.Mathlib.Omega.{arith}
use Rattle.std.proofs.Common.{lit<}
use borrow.Author.Rules.{rules}
use Rattle.below.specs.Below.{nth}
use Rattle.ranks.specs.Algorithm.Weight.{place}
use Rattle.ranks.specs.Algorithm.Tables.{Sweep}
use Rattle.ranks.specs.Algorithm.Lent.{weights_in}
use Rattle.ranks.proofs.TableLaws.{put_as, sweep-none, sweep-more}
use Rattle.events.specs.Algorithm.Weights.{side_weight}
use Rattle.events.specs.Algorithm.Slots.{entered}
use Rattle.patterns.specs.Algorithm.Patterns.{PatternRoom}
use Rattle.patterns.proofs.RoomLaws.{alone_of, room-less, room-parts, room-put, entered-is}
use Rattle.patterns.proofs.patterns.enter.Goals as goal

pub loop-mask-init : goal.loop-mask-init
loop-mask-init c =
    (alone_of c.single-out.result c.args.f (search rules) (search rules) c.single-out.ensures, sweep-none _ _ 0, record { room = λ mask lo lt. room-less (c.requires.2.room mask lo lt) })

pub entered_at-entered-requires : goal.entered_at-entered-requires
entered_at-entered-requires c =
    let l = c.loop-mask in (
      l.invariant.0,
      c.requires.1,
      c.loop-mask-test.true,
      l.invariant.2,
      record { room = λ mask lo lt. subst (PatternRoom (place c.args.f)) (sym (l.invariant.1.rest mask (λ z hi. omega arith))) (c.requires.2.room mask zero-le lt) },
    )

pub put-requires : goal.put-requires
put-requires c =
    let r = c.entered_at-entered in
    let few = (room-parts r.result (search rules) (search rules) refl r.ensures.1).0 in
    (lit< tt, (c.loop-mask-test.true, omega arith))

pub loop-mask-preserved : goal.loop-mask-preserved
loop-mask-preserved c =
    let l = c.loop-mask in
    let r = c.entered_at-entered in
    let p = c.put.ensures.weights in
    (l.invariant.0, sweep-more zero-le l.invariant.1 (put_as p (r.ensures.0 ∙ entered-is c.args.b c.args.f l.invariant.1)), room-put p l.invariant.2 r.ensures.1)

pub returns : goal.returns
returns c =
    let l = c.loop-mask in
    let a = c.args in
    let v = nth (weights_in a.t.now) in
    let e : l.mask ≡ 256 = omega arith in
    subst (Sweep (entered 2 a.b (side_weight a.f) v) v (nth (weights_in l.t)) 0) e l.invariant.1
