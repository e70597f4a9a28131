-- `quick_find::join_pair` meets its contract.
-- Assumes nothing.
use mathlib.Core.Path.{refl}
use Rattle.below.specs.Below.{◌=?◌}
use Rattle.components.proofs.StepLaws.{step_joined, step_same}
use Rattle.components.proofs.quick_find.join_pair.Goals as goal

pub returns-then-a-b : goal.returns-then-a-b
unfolding ◌=?◌
returns-then-a-b c =
    let p = c.requires in
    step_same p.0 p.1 p.2 _ refl c.if-a-b.true

pub returns : goal.returns
unfolding ◌=?◌
returns c =
    let p = c.requires in
    step_joined p.0 p.1 p.2 _ refl c.if-a-b.false c.min.ensures c.max.ensures c.relabel.ensures
