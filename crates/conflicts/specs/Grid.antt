-- The SNP matrix, and conflicts in it (paper 001, section 3; paper 01, "What the words mean").
-- Assumes nothing.
use Rattle.std.specs.Prelude.{ℕ, Bool, List}
use Rattle.below.specs.Below.{◌=?◌, ◌≤?◌, ◌and◌, ◌or◌, isnt, all_below, any_below, count_below}
use Rattle.fields.specs.Record.{grade_of, is_call_code, code_at}
use Rattle.fields.specs.Grades.{weight_of}
use Rattle.fields.specs.Table.{fragments, record_bytes_at}
use Rattle.records.specs.Rules.{gap_in}
use Rattle.conflicts.specs.Choice.{marked}

-- "SNP matrix": m fragments, n columns, the code of each fragment at each column: 0 hole, 1 A, 2 B; and the weight of each fragment
pub record Grid : Type 0 where
  pub m : ℕ
  pub n : ℕ
  pub cell : ℕ → ℕ → ℕ
  pub weight : ℕ → ℕ

-- the matrix of a table with n columns, read from the table's bytes
unfoldable pub grid_of : ℕ → List ℕ → Grid
grid_of n table = record { m = fragments table; n = n; cell = λ i c. code_at (record_bytes_at table i) c; weight = λ i. weight_of (grade_of (record_bytes_at table i)) }

-- a matrix of the same size with other cells and other weights
unfoldable pub with_rows : Grid → (ℕ → ℕ → ℕ) → (ℕ → ℕ) → Grid
with_rows g cell weight = record { m = g.m; n = g.n; cell = cell; weight = weight }

-- … with other cells alone
unfoldable pub with_cells : Grid → (ℕ → ℕ → ℕ) → Grid
with_cells g cell = record { m = g.m; n = g.n; cell = cell; weight = g.weight }

-- "one calls A and the other B"
unfoldable pub calls_conflict : ℕ → ℕ → Bool
calls_conflict x y = x =? 1 and y =? 2 or x =? 2 and y =? 1

-- "two fragments conflict on a column"
unfoldable pub conflict_on : Grid → ℕ → ℕ → ℕ → Bool
conflict_on g c i j = calls_conflict (g.cell i c) (g.cell j c)

-- "they conflict if some column has this"
unfoldable pub conflict : Grid → ℕ → ℕ → Bool
conflict g i j = any_below g.n (λ c. conflict_on g c i j)

-- two fragments "agree" if they do not conflict
unfoldable pub agree : Grid → ℕ → ℕ → Bool
agree g i j = isnt (conflict g i j)

-- two fragments conflict on a kept column
unfoldable pub conflict_on_kept : Grid → List ℕ → ℕ → ℕ → Bool
conflict_on_kept g keep_cols i j = any_below g.n (λ c. marked keep_cols c and conflict_on g c i j)

-- "a column is mixed if both A and B occur in it"
unfoldable pub mixed : Grid → ℕ → Bool
mixed g c = any_below g.m (λ i. g.cell i c =? 1) and any_below g.m (λ i. g.cell i c =? 2)

-- "gapless if no fragment has a hole between two calls"
unfoldable pub gapless : Grid → Bool
gapless g = all_below g.m (λ i. isnt (gap_in g.n (g.cell i)))

-- a fragment's "stretch from first to last call covers a column" (paper 02, T-01): it has a call at or before the column, and one at or after it
unfoldable pub stretch_covers : Grid → ℕ → ℕ → Bool
stretch_covers g c i = any_below g.n (λ a. a ≤? c and is_call_code (g.cell i a)) and any_below g.n (λ b. c ≤? b and is_call_code (g.cell i b))

-- how many fragments' stretches cover a column
unfoldable pub coverage : Grid → ℕ → ℕ
coverage g c = count_below g.m (stretch_covers g c)
