-- `masks::fill_masks` meets its contract. The invariant: the lines passed are the fragments'.
use Rattle.masks.proofs.LineLaws.{words-none, words_more, words-all}
use Rattle.masks.proofs.masks.fill_masks.Goals as goal

pub loop-i-init : goal.loop-i-init
loop-i-init c = λ n lettered. words-none _ c.told-masks

pub loop-i-preserved : goal.loop-i-preserved
loop-i-preserved c = λ n lettered. words_more _ c.loop-i.i c.loop-i-test.true (c.line_of.ensures n lettered) (c.loop-i.invariant n lettered)

pub returns : goal.returns
returns c = λ n lettered. words-all _ c.loop-i-test.false (c.loop-i.invariant n lettered)
