-- Haplotypes by the masks of the fragments: the lines of a side's fragments merged, and the code that a merged line has at a column.
-- Assumes nothing.
use Rattle.std.specs.Prelude.{List, ◌++◌, ℕ, zero, suc, if◌then◌else◌}
use Rattle.below.specs.Below.{◌=?◌, tab, nth}
use Rattle.conflicts.specs.Choice.{marked}
use Rattle.places.specs.declared.lines.Line.{Line}
use Rattle.places.specs.Algorithm.Places.{either_line}
use Rattle.masks.specs.Algorithm.Masks.{no_letters, line_at, code_in}

-- the lines of the fragments below i on side s, merged
unfoldable pub merged_line : List Line → List ℕ → ℕ → ℕ → Line
merged_line lines sides s zero = no_letters
merged_line lines sides s (suc i) = if nth sides i =? s then either_line (merged_line lines sides s i) (line_at lines i) else merged_line lines sides s i

-- the code of a merged line at column c, 3 where it is removed
unfoldable pub line_code : Line → List ℕ → ℕ → ℕ
line_code line keep_cols c = if marked keep_cols c then code_in line c else 3

-- the haplotype of side s: n codes
unfoldable pub side_codes : ℕ → ℕ → List Line → List ℕ → List ℕ → ℕ → List ℕ
side_codes m n lines keep_cols sides s = tab n (line_code (merged_line lines sides s m) keep_cols)

-- the answer's bytes by the lines, and blocks
unfoldable pub sections : ℕ → ℕ → List Line → List ℕ → List ℕ → List ℕ → List ℕ
sections m n lines keep_cols sides blocks = keep_cols ++ side_codes m n lines keep_cols sides 1 ++ side_codes m n lines keep_cols sides 2 ++ sides ++ blocks
