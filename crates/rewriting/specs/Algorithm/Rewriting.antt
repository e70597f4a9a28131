-- A table's records with the codes of a cell matrix.
-- Assumes nothing.
use Rattle.std.specs.Prelude.{List, ℕ, ◌+◌, ◌*◌, ◌<◌, get_or}
use Rattle.below.specs.Below.{tab, concat}
use Rattle.fields.specs.Table.{fragments, record_bytes_at}
use Rattle.conflicts.specs.Answer.{rewritten}

-- the row of fragment i in a matrix of 128 cells to a fragment
unfoldable pub row_in : List ℕ → ℕ → ℕ → ℕ
row_in cells i c = get_or cells (i * 128 + c) 0

-- each cell fits its two bits
pub record TwoBits (cells : List ℕ) : Type 0 where
  pub small : (k : ℕ) → get_or cells k 0 < 4

-- the records with the matrix's codes in the cells of their spans
unfoldable pub rewritten_table : List ℕ → List ℕ → List ℕ
rewritten_table table cells = concat (tab (fragments table) (λ i. rewritten (record_bytes_at table i) (row_in cells i)))
