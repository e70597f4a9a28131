use mathlib.Core.Path.{ap, ◌∙◌}
use Rattle.below.specs.Below.{◌and◌}
use Rattle.places.specs.Algorithm.Places.{occupied}
use Rattle.records.proofs.spans.hole_refused.Goals as goal

pub returns-then-gapless : goal.returns-then-gapless
unfolding ◌and◌
returns-then-gapless c = rw c.if-gapless.true (c.any.ensures ∙ ap occupied c.without.ensures)

pub returns-else-gapless : goal.returns-else-gapless
unfolding ◌and◌
returns-else-gapless c = rw c.if-gapless.false
