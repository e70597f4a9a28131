-- The cell matrix of a table that keeps its rules: its size and its codes.
-- Assumes nothing.
use mathlib.Core.Path.{◌≡◌, sym, ap, ap₂, ◌∙◌}
use mathlib.Core.List.{List}
use Prim.Native.Nat.{ℕ, ◌≤◌, ◌<◌}
use native.Mathlib.Omega.{arith}
use lib.ListN.{length}
use Rattle.fields.specs.Table.{fragments, record_bytes_at}
use Rattle.records.specs.Algorithm.Kept.{SizesKept, RecordsKept}
use Rattle.records.proofs.AcceptedLaws.{accepted-sound, sized-count, sized-n, sized-m}
use Rattle.records.proofs.PackLaws.{Sound}
use Rattle.records.proofs.SoundLaws.{sound-row-small}
use Rattle.matrix.specs.Algorithm.Matrix.{matrix_grid, Matrix}
use Rattle.matrix.specs.Algorithm.Cells.{table_cells}
use Rattle.matrix.proofs.CellLaws.{length-cells}
use Rattle.matrix.proofs.TableLaws.{cells_same}

sound : {n : ℕ} {table : List ℕ} → RecordsKept n table → (i : ℕ) → i < fragments table → Sound n (record_bytes_at table i)
sound {n} {table} kept i h = accepted-sound n table _ _ kept.kept i h

module _ {n m : ℕ} {table cells : List ℕ} (sized : SizesKept n m table) (same : cells ≡ table_cells n table) where
  pub few : fragments table ≤ 128
  few = let e = sized-count sized in let h = sized-m sized in omega arith

  pub grid-is : matrix_grid m n cells ≡ matrix_grid (fragments table) n (table_cells n table)
  grid-is = ap₂ (λ (k : ℕ) (x : List ℕ). matrix_grid k n x) (sym (sized-count sized)) same

  pub table-matrix : Matrix m n cells
  table-matrix = record { size = ap length same ∙ length-cells n table; rows = sized-m sized; columns = sized-n sized }

  -- each cell is a hole or a call
  pub table-codes : RecordsKept n table → (i c : ℕ) → i < m → c < n → (matrix_grid m n cells).cell i c ≤ 2
  unfolding matrix_grid
  table-codes kept i c hi hc =
      let inside : i < fragments table = let e = sized-count sized in omega arith in
      rw (same, cells_same n table (sized-n sized) few i c inside hc) (sound-row-small n (record_bytes_at table i) (sound kept i inside) c)
