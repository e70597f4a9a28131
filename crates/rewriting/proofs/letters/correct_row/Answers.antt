-- `letters::correct_row` meets its contract. The invariant: the columns passed hold their cells.
use Rattle.below.proofs.FillLaws.{filled_more, filled-all}
use Rattle.rewriting.specs.Algorithm.Letters.{lettered_in}
use Rattle.rewriting.proofs.letters.correct_row.Goals as goal

pub loop-c-preserved : goal.loop-c-preserved
unfolding lettered_in
loop-c-preserved c =
    let loop = c.loop-c in
    filled_more 128 _ loop.c loop.row c.code_within.result loop.invariant c.loop-c-test.true c.code_within.ensures

pub returns : goal.returns
returns c = filled-all 128 _ c.loop-c.c c.loop-c.row c.loop-c.invariant c.loop-c-test.false
