-- `patterns::enter` meets its contract. The loop's invariant: the masks below the counter have the fragment before them, and the others not yet.
-- Assumes nothing.
use Rattle.below.specs.Below.{nth}
use Rattle.ranks.specs.Algorithm.Tables.{Sweep}
use Rattle.ranks.specs.Algorithm.Lent.{weights_in}
use Rattle.events.specs.Algorithm.Weights.{side_weight}
use Rattle.events.specs.Algorithm.Slots.{entered}
use Rattle.patterns.specs.Algorithm.Patterns.{Alone, PatternsRoom}
use Rattle.patterns.proofs.patterns.enter.Given as goal

abbrev pub invariant-loop-mask : goal.invariant-loop-mask
invariant-loop-mask l = Alone l.f l.out × Sweep (entered 2 l.b (side_weight l.f) (nth (weights_in l.initial.t))) (nth (weights_in l.initial.t)) (nth (weights_in l.t)) 0 l.mask × PatternsRoom 0 0 (nth (weights_in l.t))
