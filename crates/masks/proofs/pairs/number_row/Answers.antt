-- `pairs::number_row` meets its contract. The invariant: the pairs passed have their numbers.
use borrow.Author.Rules.{rules}
use mathlib.Core.Path.{refl}
use native.Mathlib.Omega.{arith}
use Rattle.masks.proofs.PairLaws.{numbered_more, numbered-to}
use Rattle.masks.proofs.pairs.number_row.Goals as goal

pub loop-j-init : goal.loop-j-init
loop-j-init c = c.requires.1

pub bounds-matrix-i : goal.bounds-matrix-i
bounds-matrix-i c = let e = c.loop-j.invariant.long in search rules

pub loop-j-preserved : goal.loop-j-preserved
loop-j-preserved c =
    let l = c.loop-j in
    let a = c.args in
    numbered-to (omega arith) (numbered_more a.i l.j _ l.invariant refl c.requires.0 c.loop-j-test.true c.pair_number.ensures)

pub shape_of-matrix : goal.shape_of-matrix
shape_of-matrix c = let e = c.loop-j.invariant.long in let d = c.requires.1.long in search rules

pub returns : goal.returns
returns c =
    let l = c.loop-j in
    numbered-to (omega (arith, l.auto.j-end, c.loop-j-test.false, c.requires.0)) l.invariant
