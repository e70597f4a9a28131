-- Ordered weights: a cost, and below it a set of positions, so that the least weight has the least cost and of those the first set.
-- Assumes nothing.
use Rattle.std.specs.Prelude.{◌≡◌, Bool, ℕ, ◌+◌, ◌*◌, ◌^◌, ◌-◌, ◌/◌, ◌%◌, ◌≤◌, if◌then◌else◌}
use Rattle.below.specs.Below.{sum_below}

-- the weight of one unit of cost, more than any set of positions below 128
unfoldable pub top : ℕ
top = 2 ^ 128

-- the weight of a position; position 0 has the highest
abbrev pub place : ℕ → ℕ
place p = 2 ^ (127 - p)

-- the weight of removing one position
abbrev pub removal : ℕ → ℕ
removal p = top + place p

-- the sum of the places of a set of positions below a size
unfoldable pub places_of : ℕ → (ℕ → Bool) → ℕ
places_of size set = sum_below size (λ p. if set p then place p else 0)

-- the weight of a cost and a set of positions below a size
unfoldable pub weight : ℕ → ℕ → (ℕ → Bool) → ℕ
weight cost size set = cost * top + places_of size set

-- the digit of a position in a sum of places: 1 where it is in the set
abbrev pub digit_at : ℕ → ℕ → ℕ
digit_at code p = code / place p % 2

-- v is the weight of a cost of at most c and of places that come to at most s
pub record AtMost (c s v : ℕ) : Type 0 where
  pub cost : ℕ
  pub places : ℕ
  pub is : v ≡ cost * top + places
  pub few : cost ≤ c
  pub low : places ≤ s
