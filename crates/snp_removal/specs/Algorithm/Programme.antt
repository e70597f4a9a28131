-- The least weight of the columns removed, by recursion on the columns that remain (paper 001, section 5.1).
-- Assumes nothing.
use Rattle.std.specs.Prelude.{◌≡◌, ℕ, zero, suc, ◌+◌, ◌-◌, ◌≤◌, min, Bool, true, if◌then◌else◌}
use Rattle.conflicts.specs.Grid.{Grid, mixed}
use Rattle.ranks.specs.Algorithm.Weight.{removal, place, AtMost}
use Rattle.snp_removal.specs.Algorithm.Columns.{can_follow}

-- a column that is not mixed is kept; a mixed one is removed, or kept where it may follow: whichever weighs less
abbrev pub choose_column : Bool → Bool → ℕ → ℕ → ℕ → ℕ
choose_column is_mixed may out kept passed = if is_mixed then (if may then min (out + passed) kept else out + passed) else passed

-- the least weight of the last k columns after state j
unfoldable pub least_column_weight : Grid → ℕ → ℕ → ℕ
least_column_weight g zero j = 0
least_column_weight g (suc k) j =
    let i = g.n - suc k in
    choose_column (mixed g i) (can_follow g j i) (removal i) (least_column_weight g k (suc i)) (least_column_weight g k j)

-- what the mixed column i makes of a table of weights, at state j, which it may follow or not
abbrev pub if_follows : Bool → ℕ → (ℕ → ℕ) → ℕ → ℕ
if_follows may i v j = choose_column true may (removal i) (v (i + 1)) (v j)

-- the weights at the states up to column i have room for column i
pub record ColumnRoom (i : ℕ) (v : ℕ → ℕ) : Type 0 where
  pub room : (j : ℕ) → j ≤ i + 1 → AtMost 127 (place i - 1) (v j)

-- a table of weights holds those of the last k columns, at every state that can stand before them
pub record HoldsColumns (g : Grid) (k : ℕ) (v : ℕ → ℕ) : Type 0 where
  pub holds : (j : ℕ) → j ≤ g.n - k → v j ≡ least_column_weight g k j
