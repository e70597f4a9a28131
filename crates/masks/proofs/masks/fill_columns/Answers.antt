-- `masks::fill_columns` meets its contract. The invariant: the lines passed are the columns'.
use Rattle.masks.proofs.LineLaws.{words-none, words_more, words-all}
use Rattle.masks.proofs.masks.fill_columns.Goals as goal

pub loop-c-init : goal.loop-c-init
loop-c-init c = λ g masks. words-none _ c.told-columns

pub loop-c-preserved : goal.loop-c-preserved
loop-c-preserved c = λ g masks. words_more _ c.loop-c.c c.loop-c-test.true (c.column_line.ensures g masks) (c.loop-c.invariant g masks)

pub returns : goal.returns
returns c = λ g masks. words-all _ c.loop-c-test.false (c.loop-c.invariant g masks)
