-- `places::Places::has` meets its contract.
-- Assumes nothing.
use Rattle.below.specs.Below.{◌=?◌}
use Rattle.below.proofs.SearchLaws.{<?-true, <?-false}
use Rattle.places.specs.Algorithm.Places.{has_place}
use Rattle.places.proofs.places.Places.has.Goals as goal

pub returns-then-c-lt64 : goal.returns-then-c-lt64
unfolding has_place ◌=?◌
returns-then-c-lt64 c = rw (<?-true c.args.c 64 c.if-c-lt64.true)

pub returns-else-c-lt64 : goal.returns-else-c-lt64
unfolding has_place ◌=?◌
returns-else-c-lt64 c = rw (<?-false c.args.c 64 c.if-c-lt64.false)
