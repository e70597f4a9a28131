-- A table: records of 32 bytes with no header (paper 01, "Records and calls").
-- Assumes nothing.
use Rattle.std.specs.Prelude.{◌≡◌, List, ℕ, ◌+◌, ◌*◌, ◌/◌, length, take, drop, if◌then◌else◌}
use Rattle.std.specs.Borrow.{Bor}
use Rattle.below.specs.Below.{◌=?◌, ◌<?◌, first_below, max_below, tab, concat}
use Rattle.fields.specs.Record.{tag_of, start_of, span_of, grade_of, code_at}

-- m, "fragments": how many whole records the bytes hold
unfoldable pub fragments : List ℕ → ℕ
fragments table = length table / 32

-- record i: "its own 32 bytes of the table"
unfoldable pub record_bytes_at : List ℕ → ℕ → List ℕ
record_bytes_at table i = take 32 (drop (32 * i) table)

-- the start and the tag of record i
abbrev pub start_at : List ℕ → ℕ → ℕ
start_at table i = start_of (record_bytes_at table i)

abbrev pub tag_at : List ℕ → ℕ → ℕ
tag_at table i = tag_of (record_bytes_at table i)

-- where record i starts in the table and how long it is: "the empty part at the table's end" where there is no whole record i
unfoldable pub part_start : List ℕ → ℕ → ℕ
part_start table i = if i <? fragments table then 32 * i else length table

unfoldable pub part_length : List ℕ → ℕ → ℕ
part_length table i = if i <? fragments table then 32 else 0

-- "those very bytes": part is the count bytes of table from byte from on, at their own place in memory
pub record Part (table : Bor (List ℕ)) (from count : ℕ) (part : Bor (List ℕ)) : Type 0 where
  pub place : part.ref_ptr ≡ (table.ref_ptr.0, table.ref_ptr.1 + from)
  pub bytes : part.now ≡ take count (drop from table.now)

-- the position of "the first record with that tag", and the number of whole records where none has it
unfoldable pub position : ℕ → List ℕ → ℕ
position t table = first_below (fragments table) (λ i. tag_of (record_bytes_at table i) =? t)

-- the smallest column count that holds every whole record: the largest start + span, 0 if there is no record
unfoldable pub column_count_of : List ℕ → ℕ
column_count_of table = max_below (fragments table) (λ i. start_of (record_bytes_at table i) + span_of (record_bytes_at table i))

-- unpack's "m × n cells, one byte each by fragment and then column"
unfoldable pub unpacked_cells : ℕ → List ℕ → List ℕ
unpacked_cells n table = concat (tab (fragments table) (λ i. tab n (code_at (record_bytes_at table i))))

-- unpack's "m tags"
unfoldable pub unpacked_tags : List ℕ → List ℕ
unpacked_tags table = tab (fragments table) (λ i. tag_of (record_bytes_at table i))

-- unpack's m grades
unfoldable pub unpacked_grades : List ℕ → List ℕ
unpacked_grades table = tab (fragments table) (λ i. grade_of (record_bytes_at table i))
