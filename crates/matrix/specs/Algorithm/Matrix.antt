-- The cell matrix that S, F and C work on.
-- Assumes nothing.
use Rattle.std.specs.Prelude.{◌≡◌, List, ℕ, ◌+◌, ◌*◌, ◌≤◌, ◌<◌, T, length, get_or}
use Rattle.below.specs.Below.{nth}
use Rattle.fields.specs.Writing.{calls_start_of}
use Rattle.conflicts.specs.Grid.{Grid, gapless}

-- the matrix of a flat list of cells, 128 to a fragment; it has at most 128 columns wherever it is used (`Matrix`). Only C looks at weights, and takes them beside the cells
unfoldable pub matrix_grid : ℕ → ℕ → List ℕ → Grid
matrix_grid m n cells = record { m = m; n = n; cell = λ i c. get_or cells (i * 128 + c) 0; weight = λ i. 1 }

-- the same with the weights of a list
unfoldable pub weighted_grid : ℕ → ℕ → List ℕ → List ℕ → Grid
weighted_grid m n cells weights = record { m = m; n = n; cell = λ i c. get_or cells (i * 128 + c) 0; weight = nth weights }

-- room for 128 weights, none over 60
pub record Weights (weights : List ℕ) : Type 0 where
  pub size : length weights ≡ 128
  pub most : (i : ℕ) → nth weights i ≤ 60

-- a cell matrix of 128 cells to a fragment, with m fragments and n columns in use
pub record Matrix (m n : ℕ) (cells : List ℕ) : Type 0 where
  pub size : length cells ≡ 16384
  pub rows : m ≤ 128
  pub columns : n ≤ 128

-- "gapless": no fragment has a hole between two calls, and each cell is a hole or a call
pub record Gapless (g : Grid) : Type 0 where
  pub no_gap : T (gapless g)
  pub codes : (i c : ℕ) → i < g.m → c < g.n → g.cell i c ≤ 2

-- fragments rise by start
pub record Rising (g : Grid) : Type 0 where
  pub rises : (p q : ℕ) → p < q → q < g.m → calls_start_of g.n (g.cell p) ≤ calls_start_of g.n (g.cell q)
