-- `packing::out_of_order` meets its contract.
-- Assumes nothing.
use Rattle.below.specs.Below.{◌and◌, ◌<?◌}
use Rattle.below.proofs.SearchLaws.{<?-true, <?-false}
use Rattle.packing.proofs.packing.out_of_order.Goals as goal

pub returns-else-i-gt0 : goal.returns-else-i-gt0
unfolding ◌and◌ ◌<?◌
returns-else-i-gt0 c = rw (<?-false 0 c.args.i c.if-i-gt0.false)

pub returns-then-i-gt0 : goal.returns-then-i-gt0
unfolding ◌and◌
returns-then-i-gt0 c = rw (<?-true 0 c.args.i c.if-i-gt0.true) c.comes_before.ensures
