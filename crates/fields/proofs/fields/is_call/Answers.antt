-- `fields::is_call` meets its contract.
-- Assumes nothing.
use borrow.Author.Tests.{ne_eqb}
use Rattle.below.specs.Below.{◌=?◌, ◌or◌}
use Rattle.fields.specs.Record.{is_call_code}
use Rattle.fields.proofs.fields.is_call.Goals as goal

pub returns-then-code-eq-A : goal.returns-then-code-eq-A
unfolding is_call_code ◌=?◌ ◌or◌
returns-then-code-eq-A c = rw c.if-code-eq-A.true

pub returns-else-code-eq-A : goal.returns-else-code-eq-A
unfolding is_call_code ◌=?◌ ◌or◌
returns-else-code-eq-A c = rw (ne_eqb _ _ c.if-code-eq-A.false)
