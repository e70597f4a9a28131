-- `letters::majorities` meets its contract. The invariant: the columns passed have their letters.
use Rattle.below.proofs.FillLaws.{filled-all}
use Rattle.rewriting.proofs.letters.majorities.Goals as goal

pub returns : goal.returns
returns c = filled-all 128 _ c.loop-c.c c.loop-c.letters c.loop-c.invariant c.loop-c-test.false
