-- `letters::code_within` meets its contract.
-- Assumes nothing.
use Rattle.below.proofs.SearchLaws.{<?-true, <?-false}
use Rattle.rewriting.proofs.letters.code_within.Goals as goal

pub returns-then-n-c : goal.returns-then-n-c
returns-then-n-c c = rw (<?-false _ _ c.if-n-c.true)

pub returns-then-is_call : goal.returns-then-is_call
returns-then-is_call c = rw (<?-true _ _ c.if-n-c.false, ← c.is_call.ensures, c.if-is_call.true)

pub returns-else-is_call : goal.returns-else-is_call
returns-else-is_call c = rw (<?-true _ _ c.if-n-c.false, ← c.is_call.ensures, c.if-is_call.false)
