-- `patterns::slot_total` meets its contract. The loop's invariant: the total is that of the slots passed.
use mathlib.Core.Path.{◌≡◌, sym, ap, ◌∙◌}
use Prim.Native.Nat.{ℕ}
use native.Mathlib.Omega.{arith}
use Rattle.below.specs.Below.{sum_below}
use Rattle.below.specs.Below.{◌=?◌}
use Rattle.below.proofs.BelowLaws.{if-true, if-false, eq-=?, ne-isnt}
use Rattle.std.proofs.Common.{add-zero}
use Rattle.patterns.proofs.patterns.slot_total.Goals.{then-mask-b, else-mask-b}
use Rattle.patterns.specs.Algorithm.Patterns.{slot_share, slot_total_of}
use Rattle.patterns.proofs.PriceLaws.{total-none, total-more, total-few}
use Rattle.patterns.proofs.patterns.slot_total.Goals as goal

pub loop-b-init : goal.loop-b-init
loop-b-init c = let a = c.args in total-none a.prices.now a.mask a.d

pub overflow_add-total : goal.overflow_add-total
overflow_add-total c =
    let l = c.loop-b in
    let low = total-few c.args.prices.now c.args.mask c.args.d l.b l.total c.requires.0 l.invariant in
    let price = c.requires.0.most l.b in
    omega arith

pub loop-b-preserved : goal.loop-b-preserved
loop-b-preserved c =
    let l = c.loop-b in
    let a = c.args in
    elim c.if-mask-b.branch [
      | then-mask-b w ↦ total-more a.prices.now a.mask a.d l.b l.total _ _ l.invariant (w.from-total.ensures ∙ sym (if-true (_ =? a.d) _ 0 (eq-=? _ _ w.if-mask-b.true))) w.total-is
      | else-mask-b w ↦ total-more a.prices.now a.mask a.d l.b l.total _ _ l.invariant (sym (if-false (_ =? a.d) _ 0 (ne-isnt _ _ w.if-mask-b.false))) (w.total-is ∙ sym (add-zero _))
    ]

pub returns : goal.returns
unfolding slot_total_of
returns c =
    let l = c.loop-b in
    let low = total-few c.args.prices.now c.args.mask c.args.d l.b l.total c.requires.0 l.invariant in
    let e : l.b ≡ 8 = omega arith in
    (l.invariant ∙ ap (λ (b : ℕ). sum_below b (slot_share c.args.prices.now c.args.mask c.args.d)) e, omega arith)
