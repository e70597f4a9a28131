-- `grants::entered` meets its contract.
-- Assumes nothing.
use Rattle.below.specs.Below.{◌and◌, ◌<?◌}
use Rattle.slots.specs.Algorithm.Spans.{entered_by}
use Rattle.slots.proofs.grants.entered.Goals as goal

pub returns-then-covers : goal.returns-then-covers
unfolding entered_by ◌and◌ ◌<?◌
returns-then-covers c = rw (← c.covers.ensures, c.if-covers.true)

pub returns-else-covers : goal.returns-else-covers
unfolding entered_by ◌and◌
returns-else-covers c = rw (← c.covers.ensures, c.if-covers.false)
