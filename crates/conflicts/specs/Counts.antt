-- How often two fragments disagree (paper 02, T-06).
-- Assumes nothing.
use Rattle.std.specs.Prelude.{◌≡◌, ◌↔◌, List, ℕ, ◌+◌, ◌*◌, ◌<◌, ◌≤◌, T, length}
use Rattle.below.specs.Below.{◌and◌, count_below, tab, concat, nth}
use Rattle.conflicts.specs.Choice.{marked, keep_all}
use Rattle.conflicts.specs.Grid.{Grid, conflict_on, agree}

-- "the number of columns on which they do", of the kept ones
unfoldable pub conflict_count_of : Grid → List ℕ → ℕ → ℕ → ℕ
conflict_count_of g keep_cols i j = count_below g.n (λ c. marked keep_cols c and conflict_on g c i j)

-- "m × m bytes with it", row by row
unfoldable pub conflict_counts_of : Grid → List ℕ
conflict_counts_of g = concat (tab g.m (λ i. tab g.m (λ j. conflict_count_of g (keep_all g.n) i j)))

-- what the bytes tell a reader: each the number of columns on which two fragments conflict, the same both ways, "0 included" exactly where they agree, and 0 "against itself"
pub record CountsTold (g : Grid) (counts : List ℕ) : Type 0 where
  pub size : length counts ≡ g.m * g.m
  pub number : (i j : ℕ) → i < g.m → j < g.m → nth counts (i * g.m + j) ≡ count_below g.n (λ c. conflict_on g c i j)
  pub same : (i j : ℕ) → i < g.m → j < g.m → nth counts (i * g.m + j) ≡ nth counts (j * g.m + i)
  pub itself : (i : ℕ) → i < g.m → nth counts (i * g.m + i) ≡ 0
  pub none : (i j : ℕ) → i < g.m → j < g.m → (nth counts (i * g.m + j) ≡ 0) ↔ T (agree g i j)
  pub most : (i j : ℕ) → i < g.m → j < g.m → nth counts (i * g.m + j) ≤ g.n
