-- The weights of two sides: a cost above the places of the fragments on side 2.
-- Assumes nothing.
use Rattle.std.specs.Prelude.{ℕ, ◌*◌, ◌-◌, List, get_or}
use Rattle.below.specs.Below.{sum_below}
use Rattle.ranks.specs.Algorithm.Weight.{top, place}

-- what fragment f weighs on a side: nothing on side 1, its place on side 2
abbrev pub side_weight : ℕ → ℕ → ℕ
side_weight f x = (x - 1) * place f

-- what a column weighs at given sides: its cost, above the places
abbrev pub column_weight : (ℕ → (ℕ → ℕ) → ℕ) → ℕ → (ℕ → ℕ) → ℕ
column_weight cost c sides = cost c sides * top

-- what a side list costs on n columns
unfoldable pub cost_of : (ℕ → (ℕ → ℕ) → ℕ) → ℕ → List ℕ → ℕ
cost_of cost n sides = sum_below n (λ c. cost c (λ i. get_or sides i 0))
