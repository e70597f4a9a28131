-- `pairs::fill_pairs` meets its contract. The invariant: the rows passed have their numbers.
use borrow.Author.Rules.{rules}
use native.Mathlib.Omega.{arith}
use Rattle.masks.proofs.PairLaws.{number-back, numbered-none, numbered-to, matrix-is}
use Rattle.masks.proofs.pairs.fill_pairs.Goals as goal

pub loop-i-init : goal.loop-i-init
loop-i-init c = numbered-none c.requires

pub mirror_row-requires : goal.mirror_row-requires
mirror_row-requires c = let e = c.loop-i.invariant.long in search rules

pub number_row-requires : goal.number_row-requires
number_row-requires c =
    let a = c.args in
    (c.loop-i-test.true, c.mirror_row.ensures _ (number-back a.masks.now a.keep a.frags.now) c.loop-i.invariant)

pub loop-i-preserved : goal.loop-i-preserved
loop-i-preserved c = numbered-to (omega arith) c.number_row.ensures

pub shape_of-matrix : goal.shape_of-matrix
shape_of-matrix c = let e = c.loop-i.invariant.long in search rules

pub returns : goal.returns
returns c =
    let l = c.loop-i in
    let a = c.args in
    matrix-is a.masks.now a.keep a.frags.now (numbered-to (omega (arith, l.auto.i-end, c.loop-i-test.false)) l.invariant)
