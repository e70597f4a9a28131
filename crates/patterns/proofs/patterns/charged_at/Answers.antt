-- `patterns::charged_at` meets its contract.
-- Assumes nothing.
use mathlib.Core.Path.{ap, ap₂, ◌∙◌}
use Prim.Native.Nat.{ℕ, ◌+◌, ◌*◌}
use borrow.Author.Rules.{rules}
use Rattle.below.specs.Below.{nth}
use Rattle.ranks.specs.Algorithm.Weight.{top}
use Rattle.ranks.specs.Algorithm.Lent.{weights_in}
use Rattle.patterns.proofs.RoomLaws.{charge-fits, charge-count}
use Rattle.patterns.proofs.patterns.charged_at.Goals as goal

pub plus-requires : goal.plus-requires
plus-requires c =
    let counted = c.counted-cost in
    let mask-cost = c.mask_cost in
    charge-fits counted.result c.get.result mask-cost.result (search rules) (search rules) (search rules) (search rules) counted.ensures mask-cost.ensures.1 c.get.ensures c.requires.3

pub returns : goal.returns
returns c =
    let mask-cost = c.mask_cost in
    let is = c.plus.ensures ∙ ap₂ ◌+◌ c.counted-cost.ensures c.get.ensures in
    let a = c.args in
    (is ∙ ap (λ (x : ℕ). x * top + nth (weights_in a.t.now) a.mask) mask-cost.ensures.0, charge-count c.plus.result mask-cost.result (search rules) (search rules) mask-cost.ensures.1 is c.requires.3)
