-- The answer's bytes, and C's table (paper 01, "The answer's bytes").
-- Assumes nothing.
use Rattle.std.specs.Prelude.{ℕ, ◌+◌, ◌*◌, List, ◌++◌, get_or, take, if◌then◌else◌}
use Rattle.below.specs.Below.{◌<?◌, tab, concat}
use Rattle.fields.specs.Record.{start_of, span_of, cell_of}
use Rattle.fields.specs.Table.{fragments, record_bytes_at}
use Rattle.fields.specs.Writing.{cell_bytes}
use Rattle.conflicts.specs.Choice.{keep_all}
use Rattle.conflicts.specs.Grid.{Grid, grid_of}
use Rattle.conflicts.specs.Sides.{first_sides_of}
use Rattle.conflicts.specs.Removal.{snp_keep_marks_of, fragment_keep_marks_of}
use Rattle.conflicts.specs.Corrections.{least_cost_sides_of, corrected}
use Rattle.conflicts.specs.Haplotypes.{haplotypes}
use Rattle.conflicts.specs.Blocks.{block}

-- "an answer of 3n + 2m bytes"
unfoldable pub answer_size : ℕ → ℕ → ℕ
answer_size m n = 3 * n + 2 * m

-- "n keep marks; haplotype 1, then haplotype 2; m sides; m blocks"
unfoldable pub answer : Grid → List ℕ → List ℕ → List ℕ
answer g keep_cols sides = keep_cols ++ (haplotypes 2 g keep_cols sides ++ (sides ++ tab g.m (block g keep_cols sides)))

-- the sections of an answer for m fragments and n columns: the keep mark of column c
unfoldable pub keep_mark_in : List ℕ → ℕ → ℕ
keep_mark_in bytes c = get_or bytes c 0

-- the code of haplotype h (0 the first, 1 the second) at column c
unfoldable pub haplotype_in : ℕ → List ℕ → ℕ → ℕ → ℕ
haplotype_in n bytes h c = get_or bytes (n + (h * n + c)) 0

-- the side of fragment i
unfoldable pub side_in : ℕ → List ℕ → ℕ → ℕ
side_in n bytes i = get_or bytes (n + (2 * n + i)) 0

-- the block of fragment i
unfoldable pub block_in : ℕ → ℕ → List ℕ → ℕ → ℕ
block_in m n bytes i = get_or bytes (n + (2 * n + (m + i))) 0

-- check, "on a yes, takes the table's first" lawful sides
unfoldable pub check_answer : Grid → List ℕ
check_answer g = answer g (keep_all g.n) (first_sides_of 2 g (keep_all g.n) (keep_all g.m))

-- S "settles the set first, and then takes its first lawful side list"
unfoldable pub snp_answer : Grid → List ℕ
snp_answer g = answer g (snp_keep_marks_of g) (first_sides_of 2 g (snp_keep_marks_of g) (keep_all g.m))

-- F the same
unfoldable pub fragment_answer : Grid → List ℕ
fragment_answer g = answer g (keep_all g.n) (first_sides_of 2 g (keep_all g.n) (fragment_keep_marks_of g))

-- C's matrix
unfoldable pub corrected_grid : Grid → Grid
corrected_grid g = corrected g (least_cost_sides_of 2 g)

-- C's haplotypes and blocks are those "after correction"
unfoldable pub correction_answer : Grid → List ℕ
correction_answer g = answer (corrected_grid g) (keep_all g.n) (least_cost_sides_of 2 g)

-- a record with the codes of a row in the cells of its span, "and no other bit is changed": the code of cell i, and the record
unfoldable pub rewritten_code : List ℕ → (ℕ → ℕ) → ℕ → ℕ
rewritten_code r row i = if i <? span_of r then row (start_of r + i) else cell_of r i

unfoldable pub rewritten : List ℕ → (ℕ → ℕ) → List ℕ
rewritten r row = take 8 r ++ cell_bytes (rewritten_code r row)

-- a table's records with the codes of a matrix
unfoldable pub records_with : List ℕ → Grid → List ℕ
records_with table g = concat (tab (fragments table) (λ i. rewritten (record_bytes_at table i) (g.cell i)))

-- "a table of 32m bytes, the corrected records"
unfoldable pub corrected_table : ℕ → List ℕ → List ℕ
corrected_table n table = records_with table (corrected_grid (grid_of n table))
