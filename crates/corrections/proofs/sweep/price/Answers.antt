-- `sweep::price` meets its contract.
-- Assumes nothing.
use Rattle.below.proofs.SearchLaws.{=?-true, =?-false}
use Rattle.corrections.proofs.sweep.price.Goals as goal

pub returns-then-code-letter : goal.returns-then-code-letter
returns-then-code-letter c = rw (=?-true _ _ c.if-code-letter.true)

pub returns-else-code-letter : goal.returns-else-code-letter
returns-else-code-letter c = rw (=?-false _ _ c.if-code-letter.false)
