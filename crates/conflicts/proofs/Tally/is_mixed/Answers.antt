-- `conflicts::Tally::is_mixed` meets its contract.
-- Assumes nothing.
use borrow.Author.Tests.{lt-ltb, le-ltb}
use Rattle.below.specs.Below.{◌<?◌, ◌and◌}
use Rattle.conflicts.specs.Tally.{mixed_tally}
use Rattle.conflicts.proofs.Tally.is_mixed.Goals as goal

pub returns-then-self-gt0 : goal.returns-then-self-gt0
unfolding mixed_tally ◌<?◌ ◌and◌
returns-then-self-gt0 c = rw (lt-ltb _ _ c.if-self-gt0.true)

pub returns-else-self-gt0 : goal.returns-else-self-gt0
unfolding mixed_tally ◌<?◌ ◌and◌
returns-else-self-gt0 c = rw (le-ltb _ _ c.if-self-gt0.false)
