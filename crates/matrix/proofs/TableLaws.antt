-- A table's cell matrix has the coverage and the corrections of the table's bytes.
-- Assumes nothing.
use Rattle.std.specs.Prelude.{if◌then◌else◌}
use mathlib.Core.Path.{◌≡◌, ap₂, ◌∙◌}
use mathlib.Core.List.{List}
use Prim.Native.Nat.{ℕ, ◌+◌, ◌*◌, ◌/◌, ◌%◌, ◌<◌, ◌≤◌, zero-le}
use native.Mathlib.Decide.{dec_lt}
use native.Mathlib.Omega.{arith}
use lib.Dec.{lit≤}
use lib.ListN.{get_or, get_or-eq_default}
use Rattle.below.specs.Below.{nth, ◌<?◌, ◌and◌, tab}
use Rattle.fields.specs.Record.{grade_of, code_at}
use Rattle.fields.specs.Grades.{weight_of}
use Rattle.fields.specs.Table.{fragments, record_bytes_at}
use Rattle.below.proofs.BelowLaws.{both, if-ind, if-true, lt-<?, length-tab, get_or-tab}
use Rattle.fields.proofs.GradeLaws.{weight-range}
use Rattle.conflicts.specs.Grid.{Grid, grid_of, with_rows, coverage}
use Rattle.matrix.specs.Algorithm.Matrix.{matrix_grid, weighted_grid, Weights}
use Rattle.conflicts.specs.Corrections.{cost, least_cost_sides_of, corrected_cell}
use Rattle.matrix.specs.Algorithm.Cells.{table_cells, table_weight, table_weights}
use Rattle.conflicts.proofs.AlikeLaws.{coverage-cells, corrected_cell-alike, cost-alike, least_cost_sides_of-alike}

module _ (n : ℕ) (table : List ℕ) (narrow : n ≤ 128) (few : fragments table ≤ 128) where
  -- the grid of the table's cell matrix
  abbrev pub cells_grid : Grid
  cells_grid = matrix_grid (fragments table) n (table_cells n table)

  abbrev cell : ℕ → ℕ → ℕ
  cell i c = code_at (record_bytes_at table i) c

  abbrev weight : ℕ → ℕ
  weight i = weight_of (grade_of (record_bytes_at table i))

  -- the matrix has the table's code of each fragment at each column
  pub cells_same : (i c : ℕ) → i < fragments table → c < n → get_or (table_cells n table) (i * 128 + c) 0 ≡ code_at (record_bytes_at table i) c
  unfolding table_cells
  cells_same i c hi hc =
      let p : (i * 128 + c) / 128 ≡ i = omega arith in
      let q : (i * 128 + c) % 128 ≡ c = omega arith in
      get_or-tab 16384 (λ k. if k / 128 <? fragments table and k % 128 <? n then code_at (record_bytes_at table (k / 128)) (k % 128) else 0) (i * 128 + c) 0 (omega arith)
      ∙ ap₂ (λ (a b : ℕ). if a <? fragments table and b <? n then code_at (record_bytes_at table a) b else 0) p q
      ∙ if-true (i <? fragments table and c <? n) (code_at (record_bytes_at table i) c) 0 (both _ _ (lt-<? i (fragments table) hi) (lt-<? c n hc))

  pub cells-coverage : (c : ℕ) → coverage cells_grid c ≡ coverage (grid_of n table) c
  unfolding matrix_grid grid_of with_rows
  cells-coverage = coverage-cells cells_grid cell weight cells_same

  -- ---- with the weights, for C

  abbrev pub weighed_grid : Grid
  weighed_grid = weighted_grid (fragments table) n (table_cells n table) (table_weights table)

  pub weights-same : (i : ℕ) → i < fragments table → nth (table_weights table) i ≡ weight_of (grade_of (record_bytes_at table i))
  unfolding table_weights table_weight
  weights-same i h = get_or-tab 128 (table_weight table) i 0 (omega arith) ∙ if-true (i <? fragments table) _ _ (lt-<? i (fragments table) h)

  pub weighed-cost : (k : ℕ) (sides : List ℕ) → cost k weighed_grid sides ≡ cost k (grid_of n table) sides
  unfolding weighted_grid grid_of with_rows
  weighed-cost = cost-alike weighed_grid cell weight cells_same weights-same

  pub weighed-sides : (k : ℕ) → least_cost_sides_of k weighed_grid ≡ least_cost_sides_of k (grid_of n table)
  unfolding weighted_grid grid_of with_rows
  weighed-sides = least_cost_sides_of-alike weighed_grid cell weight cells_same weights-same

  pub weighed-cell : (sides : List ℕ) (i c : ℕ) → i < fragments table → c < n → corrected_cell weighed_grid sides i c ≡ corrected_cell (grid_of n table) sides i c
  unfolding weighted_grid grid_of with_rows
  weighed-cell sides i c hi hc = corrected_cell-alike weighed_grid cell weight weights-same c (λ i hi. cells_same i c hi hc) sides i (cells_same i c hi hc)

-- no weight is over 60
weight-most : (table : List ℕ) (i : ℕ) → table_weight table i ≤ 60
unfolding table_weight
weight-most table i = if-ind (λ w. w ≤ 60) (i <? fragments table) (λ t. (weight-range _).1) (λ t. lit≤ tt)

pub table-weights : (table : List ℕ) → Weights (table_weights table)
unfolding table_weights
table-weights table =
    let long = length-tab 128 (table_weight table) in
    record {
      size = long;
      most = λ i. elim (dec_lt i 128) [
        | yes h ↦ rw (get_or-tab 128 (table_weight table) i 0 h) (weight-most table i)
        | no h ↦ rw (get_or-eq_default (tab 128 (table_weight table)) 0 {n = i} (omega arith)) zero-le
      ];
    }
