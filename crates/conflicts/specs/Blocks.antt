-- Blocks (paper 01, "What the words mean"; whose neighbours conflict: paper 02, T-04).
-- Assumes nothing.
use Rattle.std.specs.Prelude.{ℕ, zero, suc, ◌<◌, Bool, List, T, if◌then◌else◌}
use Rattle.below.specs.Below.{bit, ◌=?◌, ◌and◌, ◌or◌, any_below, first_below, tab}
use Rattle.conflicts.specs.Choice.{marked}
use Rattle.conflicts.specs.Grid.{Grid, conflict_on_kept}

-- "the neighbours in a block's chain must now conflict on a kept column": two kept fragments that do
unfoldable pub linked : Grid → List ℕ → List ℕ → ℕ → ℕ → Bool
linked g keep_cols sides i j = marked sides i and marked sides j and conflict_on_kept g keep_cols i j

-- "a chain joins them": from i to j, each below m and linked to the next
pub data Chain (m : ℕ) (link : ℕ → ℕ → Bool) (i : ℕ) : ℕ → Type 0 where
  alone : Chain m link i i
  onward : {h j : ℕ} → Chain m link i h → h < m → T (link h j) → Chain m link i j

-- marks of what a chain of at most k links joins to i
unfoldable pub reached : ℕ → (ℕ → ℕ → Bool) → ℕ → ℕ → List ℕ
reached m link i zero = tab m (λ j. bit (i =? j))
reached m link i (suc k) =
    let r = reached m link i k in
    tab m (λ j. bit (marked r j or any_below m (λ h. marked r h and link h j)))

-- "its lowest record position": of what a chain joins to i
unfoldable pub lowest : ℕ → (ℕ → ℕ → Bool) → ℕ → ℕ
lowest m link i = first_below m (marked (reached m link i m))

-- "a block is numbered by its lowest record position"; "255 for a removed fragment"
unfoldable pub block : Grid → List ℕ → List ℕ → ℕ → ℕ
block g keep_cols sides i = if marked sides i then lowest g.m (linked g keep_cols sides) i else 255
