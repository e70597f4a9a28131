-- The matrix that the elimination goes through, and the weights from a column on.
-- Assumes nothing.
use Rattle.std.specs.Prelude.{ℕ, ◌-◌}
use Rattle.conflicts.specs.Grid.{Grid}
use Rattle.matrix.specs.Algorithm.Matrix.{weighted_grid}
use Rattle.events.specs.Algorithm.Events.{events_from}
use Rattle.slots.specs.Algorithm.Columns.{first_column}
use Rattle.corrections.specs.declared.columns.Columns.{Columns}
use Rattle.corrections.specs.Algorithm.Sweep.{HoldsAll}

-- the matrix of the columns
abbrev pub grid_in : Columns → Grid
grid_in columns = weighted_grid columns.m columns.n columns.cells.now columns.weights.now

-- the weights are the least over the events from column c on
abbrev pub HoldsFrom : Columns → ℕ → (ℕ → ℕ) → Type 0
HoldsFrom columns c v = HoldsAll (grid_in columns) columns.slots.now (events_from (first_column (grid_in columns)) columns.m c (columns.n - c)) v
