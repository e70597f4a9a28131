-- The cell matrix after correction.
-- Assumes nothing.
use Rattle.std.specs.Prelude.{◌≡◌, List, ℕ, ◌+◌, ◌*◌, ◌/◌, ◌%◌, ◌≤◌, ◌<◌, length, get_or, if◌then◌else◌}
use Rattle.below.specs.Below.{nth, ◌=?◌, ◌<?◌, ◌and◌, tab}
use Rattle.fields.specs.Record.{is_call_code}
use Rattle.matrix.specs.Algorithm.Matrix.{weighted_grid}
use Rattle.conflicts.specs.Corrections.{letter_weight, corrected_cell}

-- a side, 1 or 2, for each fragment
pub record OnSides (m : ℕ) (sides : List ℕ) : Type 0 where
  pub size : length sides ≡ m
  pub on : (i : ℕ) → i < m → (1 ≤ get_or sides i 0) × (get_or sides i 0 ≤ 2)

-- a total for each column, with room for one weight more in 16 bits
pub record Room (totals : List ℕ) : Type 0 where
  pub size : length totals ≡ 128
  pub low : (c : ℕ) → c < 128 → nth totals c ≤ 65280

-- the total at column c with a weight added where the row from a place on has the letter
unfoldable pub with_row : List ℕ → ℕ → ℕ → ℕ → List ℕ → ℕ → ℕ
with_row cells at weight letter totals c = nth totals c + (if nth cells (at + c) =? letter then weight else 0)

-- the weights of a letter on side s among the first i fragments, for each column
pub record Totals (cells weights sides : List ℕ) (s letter i : ℕ) (totals : List ℕ) : Type 0 where
  pub size : length totals ≡ 128
  pub low : (c : ℕ) → c < 128 → nth totals c ≤ i * 255
  pub weighs : (c : ℕ) → c < 128 → nth totals c ≡ letter_weight (weighted_grid i 128 cells weights) (nth sides) s c letter

-- a cell "after correction" at place k of the matrix, and 0 outside m × n
unfoldable pub corrected_at : ℕ → ℕ → List ℕ → List ℕ → List ℕ → ℕ → ℕ
corrected_at m n cells weights sides k = if k / 128 <? m and k % 128 <? n then corrected_cell (weighted_grid m n cells weights) sides (k / 128) (k % 128) else 0

-- the cells "after correction"
unfoldable pub corrected_cells : ℕ → ℕ → List ℕ → List ℕ → List ℕ → List ℕ
corrected_cells m n cells weights sides = tab 16384 (corrected_at m n cells weights sides)

-- a cell at place k where each call becomes its side's letter, by lists of the letters of both sides
unfoldable pub lettered_at : ℕ → ℕ → List ℕ → List ℕ → List ℕ → List ℕ → ℕ → ℕ
lettered_at m n cells sides first second k =
    if k / 128 <? m and k % 128 <? n
    then (if is_call_code (nth cells k) then (if nth sides (k / 128) =? 1 then nth first (k % 128) else nth second (k % 128)) else nth cells k)
    else 0

-- the same at column c of the row of a fragment whose cells start at a place, by the letters of its side
unfoldable pub lettered_in : ℕ → List ℕ → ℕ → List ℕ → ℕ → ℕ
lettered_in n cells at letters c = if c <? n then (if is_call_code (nth cells (at + c)) then nth letters c else nth cells (at + c)) else 0
