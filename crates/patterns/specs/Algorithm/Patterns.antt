-- The weights of the 256 side patterns of 8 slots, and what the events of the elimination make of them.
-- Assumes nothing.
use Rattle.std.specs.Prelude.{◌≡◌, List, ℕ, ◌+◌, ◌*◌, ◌-◌, ◌^◌, ◌≤◌, ◌<◌, min, if◌then◌else◌}
use Rattle.below.specs.Below.{nth, sum_below, ◌=?◌}
use Rattle.conflicts.specs.Corrections.{side_price}
use Rattle.ranks.specs.declared.rank.Rank.{Rank}
use Rattle.ranks.specs.Algorithm.Weight.{top, place}
use Rattle.ranks.specs.Algorithm.Reading.{code}
use Rattle.events.specs.Algorithm.Slots.{digit}

-- the prices of a letter in the 8 slots, none over 60
pub record Prices (prices : List ℕ) : Type 0 where
  pub most : (b : ℕ) → nth prices b ≤ 60

-- what slot b says of a side: its price where it has digit d of the mask
unfoldable pub slot_share : List ℕ → ℕ → ℕ → ℕ → ℕ
slot_share prices mask d b = if digit 2 b mask =? d then nth prices b else 0

-- what the slots with digit d of the mask come to
unfoldable pub slot_total_of : List ℕ → ℕ → ℕ → ℕ
slot_total_of prices mask d = sum_below 8 (slot_share prices mask d)

-- what a mask costs at the prices of A and of B in a column: over the two sides, the smaller total
unfoldable pub slot_cost : List ℕ → List ℕ → ℕ → ℕ
slot_cost of_a of_b mask = side_price (slot_total_of of_a mask 0) (slot_total_of of_b mask 0) + side_price (slot_total_of of_a mask 1) (slot_total_of of_b mask 1)

-- a rank that weighs the place of fragment f
pub record Alone (f : ℕ) (r : Rank) : Type 0 where
  pub no_cost : r.count ≡ 0
  pub its_place : code r ≡ place f

-- a weight with room for one column more, and for p more places
pub record PatternRoom (p v : ℕ) : Type 0 where
  pub cost : ℕ
  pub places : ℕ
  pub is : v ≡ cost * top + places
  pub few : cost ≤ 60000
  pub low : places + p < top

-- every mask's weight from `from` on has room
pub record PatternsRoom (p from : ℕ) (v : ℕ → ℕ) : Type 0 where
  pub room : (mask : ℕ) → from ≤ mask → mask < 256 → PatternRoom p (v mask)

-- what an entry becomes where a fragment that weighs p on side 2 enters at slot b, read in place
abbrev pub entered_at : ℕ → ℕ → (ℕ → ℕ) → ℕ → ℕ
entered_at b p v mask = if digit 2 b mask =? 0 then min (v mask) (p + v (mask + 2 ^ b)) else v (mask - 2 ^ b)
