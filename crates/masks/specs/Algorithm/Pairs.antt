-- On how many kept columns two kept fragments conflict, by their masks, and the matrix of these numbers, 128 to a fragment.
-- Assumes nothing.
use Rattle.std.specs.Prelude.{◌≡◌, List, ℕ, ◌/◌, ◌%◌, ◌<◌, length, if◌then◌else◌}
use Rattle.below.specs.Below.{◌and◌, tab, nth}
use Rattle.conflicts.specs.Choice.{marked}
use Rattle.conflicts.specs.Grid.{Grid}
use Rattle.places.specs.declared.places.Places.{Places}
use Rattle.places.specs.declared.lines.Line.{Line}
use Rattle.places.specs.Algorithm.Places.{places_where, conflict_size}
use Rattle.masks.specs.Algorithm.Masks.{Masks, line_at}

-- on how many kept columns fragments i and j conflict by their lines, and 0 where one is removed
unfoldable pub pair_number_of : List Line → Places → List ℕ → ℕ → ℕ → ℕ
pair_number_of lines keep keep_frags i j = if marked keep_frags i and marked keep_frags j then conflict_size keep (line_at lines i) (line_at lines j) else 0

-- the first k places of a matrix, 128 to a fragment, hold the numbers of their pairs
pub record Numbered (number : ℕ → ℕ → ℕ) (k : ℕ) (matrix : List ℕ) : Type 0 where
  pub long : length matrix ≡ 16384
  pub done : (q : ℕ) → q < k → nth matrix q ≡ number (q / 128) (q % 128)

-- the numbers of all pairs
unfoldable pub pair_matrix : List Line → Places → List ℕ → List ℕ
pair_matrix lines keep keep_frags = tab 16384 (λ k. pair_number_of lines keep keep_frags (k / 128) (k % 128))

-- what fragments are compared by: the lines of a matrix, and the places of its kept columns
pub record Compared (g : Grid) (keep_cols : List ℕ) (lines : List Line) (keep : Places) : Type 0 where
  pub masks : Masks g lines
  pub columns : keep ≡ places_where (marked keep_cols)
