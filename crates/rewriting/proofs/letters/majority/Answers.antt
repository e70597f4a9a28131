-- `letters::majority` meets its contract.
-- Assumes nothing.
use Rattle.below.proofs.SearchLaws.{<?-true, <?-false}
use Rattle.conflicts.specs.Corrections.{majority_letter}
use Rattle.rewriting.proofs.letters.majority.Goals as goal

pub returns-then-a-b : goal.returns-then-a-b
unfolding majority_letter
returns-then-a-b c = rw (<?-true _ _ c.if-a-b.true)

pub returns-else-a-b : goal.returns-else-a-b
unfolding majority_letter
returns-else-a-b c = rw (<?-false _ _ c.if-a-b.false)
