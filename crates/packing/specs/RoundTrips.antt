-- Unpack and pack undo each other: "unpack then pack restores every record, pack then unpack every call"; "restoring records by packing is claimed for tables in which every span is over 0". A call is given by what its contract says of it.
-- Assumes nothing.
use Rattle.std.specs.Prelude.{◌≡◌, ◌⊎◌, List, ℕ, ◌<◌, length, get_or}
use Rattle.below.specs.Below.{Lowest, ◌=?◌}
use Rattle.fields.specs.Record.{span_of}
use Rattle.fields.specs.Table.{fragments, record_bytes_at}
use Rattle.records.specs.Outcome.{Verdict, accepted, refused}
use Rattle.conflicts.specs.Services.{unpack_leaves, pack_leaves}

-- every number of a buffer is below a bound: 256 for bytes, 2^32 for tags
pub record NumbersBelow (bound : ℕ) (list : List ℕ) : Type 0 where
  pub fits : (i : ℕ) → i < length list → get_or list i 0 < bound

-- a call of unpack, its outcome, and what it left in the cells, the tags and the grades
pub record UnpackCall (n : ℕ) (table cells tags grades : List ℕ) (verdict : Verdict) (cells_left tags_left grades_left : List ℕ) : Type 0 where
  pub outcome : verdict ≡ (unpack_leaves n table cells tags grades).outcome
  pub cells_are : cells_left ≡ (unpack_leaves n table cells tags grades).cells
  pub tags_are : tags_left ≡ (unpack_leaves n table cells tags grades).tags
  pub grades_are : grades_left ≡ (unpack_leaves n table cells tags grades).grades

-- a call of pack, its outcome, and what it left in the table
pub record PackCall (n : ℕ) (cells tags grades table : List ℕ) (verdict : Verdict) (table_left : List ℕ) : Type 0 where
  pub outcome : verdict ≡ (pack_leaves n cells tags grades table).outcome
  pub table_is : table_left ≡ (pack_leaves n cells tags grades table).table

-- pack accepts, and leaves the very table that was unpacked
pub record TableRestored (table : List ℕ) (verdict : Verdict) (table_left : List ℕ) : Type 0 where
  pub accepts : verdict ≡ accepted (fragments table)
  pub restores : table_left ≡ table

-- unpack accepts, and leaves the very cells, tags and grades that were packed
pub record CellsRestored (cells tags grades : List ℕ) (verdict : Verdict) (cells_left tags_left grades_left : List ℕ) : Type 0 where
  pub accepts : verdict ≡ accepted (length tags)
  pub restores_cells : cells_left ≡ cells
  pub restores_tags : tags_left ≡ tags
  pub restores_grades : grades_left ≡ grades

-- pack refuses fragment i, which has no call, and leaves its buffer as it was
pub record EmptyRefused (i : ℕ) (out : List ℕ) (verdict : Verdict) (table_left : List ℕ) : Type 0 where
  pub refuses : verdict ≡ refused 17 i
  pub untouched : table_left ≡ out

-- "every span is over 0"
abbrev pub SpansOverZero : List ℕ → Type 0
SpansOverZero table = (i : ℕ) → i < fragments table → 0 < span_of (record_bytes_at table i)

-- the first record of a table without calls
abbrev pub FirstEmpty : List ℕ → ℕ → Type 0
FirstEmpty table = Lowest (fragments table) (λ i. span_of (record_bytes_at table i) =? 0)

-- restoring records by packing: of every table that unpack accepts and in which every span is over 0, into any buffer of the table's length
abbrev pub UnpackThenPack : Type 0
UnpackThenPack =
    (n m : ℕ) (table cells tags grades cells_left tags_left grades_left out table_left : List ℕ) (first second : Verdict) → UnpackCall n table cells tags grades first cells_left tags_left grades_left → first ≡ accepted m
    → length out ≡ length table → PackCall n cells_left tags_left grades_left out second table_left → NumbersBelow 256 table → SpansOverZero table → TableRestored table second table_left

-- of every other table that unpack accepts: pack refuses what unpack gave, at the first record without calls
abbrev pub UnpackThenRefused : Type 0
UnpackThenRefused =
    (n m : ℕ) (table cells tags grades cells_left tags_left grades_left out table_left : List ℕ) (first second : Verdict) → UnpackCall n table cells tags grades first cells_left tags_left grades_left → first ≡ accepted m
    → length out ≡ length table → PackCall n cells_left tags_left grades_left out second table_left → (i : ℕ) → FirstEmpty table i → EmptyRefused i out second table_left

-- there is no third kind of table: nothing is lost without a refusal
abbrev pub SpansOrEmpty : Type 0
SpansOrEmpty = (table : List ℕ) → SpansOverZero table ⊎ ((i : ℕ) × FirstEmpty table i)

-- "pack no longer writes them": no record of a table that pack writes is without calls
abbrev pub PackWritesCalls : Type 0
PackWritesCalls = (n m : ℕ) (cells tags grades table table_left : List ℕ) (verdict : Verdict) → PackCall n cells tags grades table verdict table_left → verdict ≡ accepted m → SpansOverZero table_left

-- "pack then unpack every call", "both ways restore them": of all cells, tags and grades that pack accepts, into any buffers of their lengths
abbrev pub PackThenUnpack : Type 0
PackThenUnpack =
    (n m : ℕ) (cells tags grades table table_left cells_out tags_out grades_out cells_left tags_left grades_left : List ℕ) (first second : Verdict) → NumbersBelow 4294967296 tags → PackCall n cells tags grades table first table_left → first ≡ accepted m
    → length cells_out ≡ length cells → length tags_out ≡ length tags → length grades_out ≡ length grades → UnpackCall n table_left cells_out tags_out grades_out second cells_left tags_left grades_left
    → CellsRestored cells tags grades second cells_left tags_left grades_left
