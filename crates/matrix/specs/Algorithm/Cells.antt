-- The cell matrix that the services work on, 128 cells to a fragment.
-- Assumes nothing.
use Rattle.std.specs.Prelude.{List, ℕ, ◌/◌, ◌%◌, if◌then◌else◌}
use Rattle.below.specs.Below.{◌<?◌, ◌and◌, tab}
use Rattle.fields.specs.Record.{grade_of, code_at}
use Rattle.fields.specs.Grades.{weight_of}
use Rattle.fields.specs.Table.{fragments, record_bytes_at}

-- the cells of a table: fragment i's code at column c stands at place 128i + c, and 0 outside m × n
unfoldable pub table_cells : ℕ → List ℕ → List ℕ
table_cells n table = tab 16384 (λ k. if k / 128 <? fragments table and k % 128 <? n then code_at (record_bytes_at table (k / 128)) (k % 128) else 0)

-- the weight of fragment i of a table, and 1 where there is none
unfoldable pub table_weight : List ℕ → ℕ → ℕ
table_weight table i = if i <? fragments table then weight_of (grade_of (record_bytes_at table i)) else 1

-- the weights of a table, with room for 128
unfoldable pub table_weights : List ℕ → List ℕ
table_weights table = tab 128 (table_weight table)
