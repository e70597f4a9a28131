-- `answer::copy` meets its contract. The invariant: the bytes passed are copied.
use native.Mathlib.Omega.{arith}
use borrow.Author.Rules.{rules}
use mathlib.Core.Path.{refl}
use lib.Seq.{ext_get_or}
use Rattle.below.proofs.FillLaws.{filled_none, filled_more}
use Rattle.phasing.proofs.answer.copy.Goals as goal

pub loop-i-init : goal.loop-i-init
loop-i-init c = filled_none _ _ _ refl

pub bounds-from-i : goal.bounds-from-i
bounds-from-i c = let e = c.loop-i.invariant.sized in search rules

pub loop-i-preserved : goal.loop-i-preserved
loop-i-preserved c =
    let loop = c.loop-i in
    let e = loop.invariant.sized in filled_more _ _ loop.i loop.to _ loop.invariant (omega arith) refl

pub shape_of-to : goal.shape_of-to
shape_of-to c = c.loop-i.invariant.sized

pub returns : goal.returns
returns c =
    let lp = c.loop-i in
    let e = lp.invariant.sized in
    ext_get_or 0 lp.to c.args.from.now (omega (arith, c.requires)) (λ k h. lp.invariant.done k (omega arith))
