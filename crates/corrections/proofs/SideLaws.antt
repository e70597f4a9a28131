-- For a matrix, the least weight over the events holds C's side list and its cost.
-- Assumes nothing.
use mathlib.Core.Path.{◌≡◌}
use Prim.Native.Nat.{◌+◌, ◌^◌, ◌≤◌, ◌<◌}
use Rattle.below.specs.Below.{tab}
use Rattle.conflicts.specs.Grid.{Grid}
use Rattle.conflicts.specs.Corrections.{letter_weight, cost, least_cost_sides_of, column_cost}
use Rattle.ranks.specs.declared.rank.Rank.{Rank}
use Rattle.ranks.specs.Algorithm.Weight.{digit_at}
use Rattle.ranks.specs.Algorithm.Reading.{code, value}
use Rattle.events.specs.Algorithm.Events.{least_event_weight, all_first, events}
use Rattle.events.specs.Algorithm.Weights.{side_weight, column_weight, cost_of}
use Rattle.events.proofs.LightestLaws.{rank-sides}
use Rattle.slots.specs.Algorithm.Columns.{first_column, covers}
use Rattle.slots.proofs.CoverLaws.{grid-starts, cost-local}

pub least-sides : (g : Grid) → g.m ≤ 128 → (r : Rank) → r.high < 2 ^ 64 → r.low < 2 ^ 64
    → value r ≡ least_event_weight 2 side_weight (column_weight (column_cost 2 g)) (events (first_column g) g.m g.n) all_first
    → (tab g.m (λ p. 1 + digit_at (code r) p) ≡ least_cost_sides_of 2 g) × (r.count ≡ cost 2 g (least_cost_sides_of 2 g))
unfolding least_cost_sides_of cost cost_of column_cost letter_weight
least-sides g small r hh hl e = rank-sides g.m g.n (first_column g) (covers g) (grid-starts g) (column_cost 2 g) (cost-local g 2) small r hh hl e
