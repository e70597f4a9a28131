-- `pairs::mirror_row` meets its contract. The invariant: the pairs passed have their numbers, whatever these are, if they are the same both ways.
use mathlib.Core.Path.{refl, ◌∙◌}
use native.Mathlib.Omega.{arith}
use Rattle.masks.proofs.PairLaws.{numbered_more, numbered-to, numbered-at}
use Rattle.masks.proofs.pairs.mirror_row.Goals as goal

pub loop-j-init : goal.loop-j-init
loop-j-init c = λ number same w. numbered-to (omega arith) w

pub loop-j-preserved : goal.loop-j-preserved
loop-j-preserved c =
    let l = c.loop-j in
    let i = c.args.i in
    let h = c.requires.0 in
    let t = c.loop-j-test.true in
    λ number same w.
    let now = l.invariant number same w in
    let r = numbered_more i l.j _ now refl h (omega arith) (numbered-at l.j i now h (omega arith) ∙ same l.j i) in
    numbered-to (omega arith) r

pub returns : goal.returns
returns c =
    let l = c.loop-j in
    let t = c.loop-j-test.false in
    let e = l.auto.j-end in
    λ number same w. numbered-to (omega arith) (l.invariant number same w)
