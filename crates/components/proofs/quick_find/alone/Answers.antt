-- `quick_find::alone` meets its contract. The invariant: the fragments passed are by themselves, on side 1.
use native.Mathlib.Omega.{arith}
use borrow.Author.Rules.{rules}
use mathlib.Core.Path.{◌≡◌, sym, ◌∙◌}
use lib.ListN.{length}
use Rattle.below.specs.Below.{◌<?◌}
use Rattle.below.proofs.TestLaws.{if-lt, if-ge}
use Rattle.components.proofs.SweepLaws.{sweep-set}
use Rattle.components.proofs.StepLaws.{own_label_of, byte-if, begun}
use Rattle.components.proofs.quick_find.alone.Goals as goal
use Rattle.components.proofs.quick_find.alone.Goals.{then-kept, else-kept}

pub loop-k-preserved : goal.loop-k-preserved
unfolding ◌<?◌
loop-k-preserved c =
    let lp = c.loop-k in
    let label : c.if-kept.labels ≡ own_label_of c.args.frags.now lp.k =
    elim c.if-kept.branch [
      | then-kept w ↦ w.labels-is ∙ sym (if-lt _ _ w.if-kept.true)
      | else-kept w ↦ w.labels-is ∙ sym (if-ge _ _ w.if-kept.false)
    ] in (
      sweep-set lp.labels lp.k _ lp.invariant.0 (search rules) label,
      sweep-set lp.sides lp.k _ lp.invariant.1 (search rules) (c.from.ensures ∙ byte-if _),
    )

pub returns : goal.returns
returns c =
    let lp = c.loop-k in
    let a = c.args in
    let e : lp.k ≡ length a.frags.now = omega (arith, lp.auto.k-end, c.loop-k-test.false) in
    λ pair. begun (length a.frags.now) c.requires.0 a.frags.now pair (rw e at lp.invariant.0) (rw e at lp.invariant.1)
