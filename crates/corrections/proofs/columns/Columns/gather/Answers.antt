-- `columns::Columns::gather` meets its contract. The loop's invariant: the prices of the fragments passed are in their slots.
use mathlib.Core.Path.{refl, sym, ◌∙◌}
use Rattle.matrix.specs.Algorithm.Matrix.{weighted_grid}
use Rattle.slots.proofs.GrantLaws.{zeros-at}
use Rattle.slots.proofs.DepthLaws.{covers-is}
use Rattle.corrections.specs.Algorithm.Elimination.{grid_in}
use Rattle.corrections.proofs.PriceLaws.{gathered_none, gathered-in, gathered-skip, price-is}
use Rattle.corrections.proofs.columns.Columns.gather.Goals.{then-covers, else-covers}
use Rattle.corrections.proofs.columns.Columns.gather.Goals as goal

pub loop-i-init : goal.loop-i-init
loop-i-init c = (gathered_none _ _ _ _ _ refl (λ b. zeros-at 8 b), gathered_none _ _ _ _ _ refl (λ b. zeros-at 8 b))

pub loop-i-preserved : goal.loop-i-preserved
unfolding weighted_grid
loop-i-preserved c =
    let l = c.loop-i in
    let s = c.args.self.now in
    let g = grid_in s in
    let r = s.ready in
    let low = r.slotted.low l.i in
    let same = c.covers.ensures ∙ covers-is g s.spans.now r.spanned c.args.c l.i c.loop-i-test.true in
    elim c.if-covers.branch [
      | then-covers w ↦
          let on = sym same ∙ w.if-covers.true in
          rw (w.a-is, w.b-is) (
            gathered-in g s.slots.now c.args.c 1 l.i low on (w.price.ensures ∙ sym (price-is s.m s.n s.cells.now s.weights.now c.args.c 1 l.i)) l.invariant.0,
            gathered-in g s.slots.now c.args.c 2 l.i low on (w.price-then-covers.ensures ∙ sym (price-is s.m s.n s.cells.now s.weights.now c.args.c 2 l.i)) l.invariant.1,
          )
      | else-covers w ↦
          let off = sym same ∙ w.if-covers.false in
          rw (w.a-is, w.b-is) (gathered-skip g s.slots.now c.args.c 1 l.i off l.invariant.0, gathered-skip g s.slots.now c.args.c 2 l.i off l.invariant.1)
    ]
