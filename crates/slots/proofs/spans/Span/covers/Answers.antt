-- `spans::Span::covers` meets its contract.
-- Assumes nothing.
use native.Mathlib.Omega.{arith}
use Rattle.below.specs.Below.{◌and◌, ◌<?◌, ◌≤?◌}
use Rattle.below.proofs.SearchLaws.{≤?-true}
use Rattle.slots.specs.Algorithm.Spans.{has_column}
use Rattle.slots.proofs.spans.Span.covers.Goals as goal

pub returns-then-self-c : goal.returns-then-self-c
unfolding has_column ◌and◌ ◌<?◌
returns-then-self-c c = rw (≤?-true _ _ c.if-self-c.true)

pub returns-else-self-c : goal.returns-else-self-c
unfolding has_column ◌and◌ ◌<?◌ ◌≤?◌
returns-else-self-c c = grind arith
