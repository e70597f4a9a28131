-- A table packed from cells, tags and grades, and the cells, tags and grades of a table.
-- Assumes nothing.
use mathlib.Core.Path.{◌≡◌, sym, ap, ap₂, ◌∙◌}
use mathlib.Core.List.{List}
use Prim.Native.Nat.{ℕ, ◌+◌, ◌*◌, ◌%◌, ◌≤◌, ◌<◌}
use native.Mathlib.Nat.{mul_comm}
use native.Mathlib.Omega.{arith}
use lib.ListN.{length, get_or, take, drop, length-drop}
use lib.Seq.{get_or-take, get_or-drop, length-take-le}
use Rattle.below.specs.Below.{tab, concat}
use Rattle.fields.specs.Record.{tag_of, grade_of, code_at}
use Rattle.fields.specs.Table.{fragments, record_bytes_at, unpacked_cells, unpacked_tags, unpacked_grades}
use Rattle.fields.specs.Writing.{calls_span_of, record_of, row_of, packed}
use Rattle.below.proofs.BelowLaws.{length-tab, get_or-tab}
use Rattle.below.proofs.RowLaws.{tab-ext, tab-again, cells-again, rows_whole, length-laid-out, row_laid, length-flat, flat-at}
use Rattle.records.proofs.PackLaws.{Sound, length-record_of, tag-record_of, grade-record_of, record-again, row-again, record_of-same}

-- ---- the records of a table

pub fragments-of : (table : List ℕ) (m : ℕ) → length table ≡ m * 32 → fragments table ≡ m
unfolding fragments
fragments-of table m e = omega arith

pub length_whole : (table : List ℕ) → length table % 32 ≡ 0 → length table ≡ fragments table * 32
unfolding fragments
length_whole table e = omega arith

pub record_bytes_at-row : (table : List ℕ) (i : ℕ) → record_bytes_at table i ≡ take 32 (drop (i * 32) table)
unfolding record_bytes_at
record_bytes_at-row table i = ap (λ (j : ℕ). take 32 (drop j table)) (mul_comm 32 i)

pub length-record_bytes_at : (table : List ℕ) (i : ℕ) → i < fragments table → length (record_bytes_at table i) ≡ 32
unfolding record_bytes_at fragments
length-record_bytes_at table i l = let d = length-drop (32 * i) table in length-take-le 32 (drop (32 * i) table) (omega arith)

pub record_bytes_at-bytes : (table : List ℕ) → ((j : ℕ) → j < length table → get_or table j 0 < 256) → (i : ℕ) → i < fragments table → (k : ℕ) → k < 32 → get_or (record_bytes_at table i) k 0 < 256
unfolding record_bytes_at fragments
record_bytes_at-bytes table bytes i l k h = rw (get_or-take 32 (drop (32 * i) table) k 0 h, get_or-drop (32 * i) table k 0) (bytes (32 * i + k) (omega arith))

-- ---- what unpack gives

module _ (table : List ℕ) where
  pub length-unpacked_tags : length (unpacked_tags table) ≡ fragments table
  unfolding unpacked_tags
  length-unpacked_tags = length-tab (fragments table) _

  pub tag-unpacked : (i : ℕ) → i < fragments table → get_or (unpacked_tags table) i 0 ≡ tag_of (record_bytes_at table i)
  unfolding unpacked_tags
  tag-unpacked i l = get_or-tab (fragments table) (λ i. tag_of (record_bytes_at table i)) i 0 l

  pub length-unpacked_grades : length (unpacked_grades table) ≡ fragments table
  unfolding unpacked_grades
  length-unpacked_grades = length-tab (fragments table) _

  pub grade-unpacked : (i : ℕ) → i < fragments table → get_or (unpacked_grades table) i 0 ≡ grade_of (record_bytes_at table i)
  unfolding unpacked_grades
  grade-unpacked i l = get_or-tab (fragments table) (λ i. grade_of (record_bytes_at table i)) i 0 l

  pub length-unpacked_cells : (n : ℕ) → length (unpacked_cells n table) ≡ fragments table * n
  unfolding unpacked_cells
  length-unpacked_cells n = length-flat n (λ i. code_at (record_bytes_at table i)) (fragments table)

  pub row-unpacked : (n i : ℕ) → i < fragments table → (c : ℕ) → c < n → row_of n (unpacked_cells n table) i c ≡ code_at (record_bytes_at table i) c
  unfolding unpacked_cells row_of
  row-unpacked n i l c k = flat-at n (λ i. code_at (record_bytes_at table i)) 0 (fragments table) i c l k

-- ---- table, its contents, table

-- a table of whole records that break none of rules 4, 5, 6 and 7, packed again from its cells, tags and grades
pub table-again : (n : ℕ) (table : List ℕ) → length table % 32 ≡ 0 → ((j : ℕ) → j < length table → get_or table j 0 < 256) → ((i : ℕ) → i < fragments table → Sound n (record_bytes_at table i))
    → packed n (unpacked_cells n table) (unpacked_tags table) (unpacked_grades table) ≡ table
unfolding packed
table-again n table whole bytes sound =
    let m = fragments table in
    let row = row_of n (unpacked_cells n table) in
    ap (λ (k : ℕ). concat (tab k (λ i. record_of n (get_or (unpacked_tags table) i 0) (get_or (unpacked_grades table) i 0) (row i)))) (length-unpacked_tags table)
    ∙ ap concat (tab-ext m _ _ (λ i l.
    ap₂ (λ (t g : ℕ). record_of n t g (row i)) (tag-unpacked table i l) (grade-unpacked table i l)
    ∙ record_of-same n (row i) (code_at (record_bytes_at table i)) (row-unpacked table n i l) (tag_of (record_bytes_at table i)) (grade_of (record_bytes_at table i))
    ∙ record-again (record_bytes_at table i) (length-record_bytes_at table i l) (record_bytes_at-bytes table bytes i l) n (sound i l)
    ∙ record_bytes_at-row table i))
    ∙ rows_whole 32 m table (length_whole table whole)

-- ---- cells, tags and grades, table, the same again

-- what pack's rules 1, 3, 4 and 6 ask of m × n cells, m tags and m grades, and that the tags have 32 bits
pub record Packable (n : ℕ) (cells tags grades : List ℕ) : Type 0 where
  pub wide : n ≤ 128
  pub exact : length cells ≡ length tags * n
  pub graded : length grades ≡ length tags
  pub narrow : (i : ℕ) → i < length tags → calls_span_of n (row_of n cells i) ≤ 96
  pub small : (i : ℕ) → i < length tags → (c : ℕ) → c < n → row_of n cells i c ≤ 2
  pub bits : (i : ℕ) → i < length tags → get_or tags i 0 < 4294967296

module _ (n : ℕ) (cells tags grades : List ℕ) where
  pub length-packed : length (packed n cells tags grades) ≡ length tags * 32
  unfolding packed
  length-packed = length-laid-out 32 _ (λ i. length-record_of n (get_or tags i 0) (get_or grades i 0) (row_of n cells i)) (length tags)

  pub fragments-packed : fragments (packed n cells tags grades) ≡ length tags
  fragments-packed = fragments-of (packed n cells tags grades) (length tags) length-packed

  pub record-packed : (i : ℕ) → i < length tags → record_bytes_at (packed n cells tags grades) i ≡ record_of n (get_or tags i 0) (get_or grades i 0) (row_of n cells i)
  unfolding packed
  record-packed i l =
      record_bytes_at-row (packed n cells tags grades) i
      ∙ row_laid 32 (λ i. record_of n (get_or tags i 0) (get_or grades i 0) (row_of n cells i)) (λ i. length-record_of n (get_or tags i 0) (get_or grades i 0) (row_of n cells i)) (length tags) i l

  pub grade-packed : (i : ℕ) → i < length tags → grade_of (record_bytes_at (packed n cells tags grades) i) ≡ get_or grades i 0
  grade-packed i l = ap grade_of (record-packed i l) ∙ grade-record_of n (get_or tags i 0) (get_or grades i 0) (row_of n cells i)

  module _ (x : Packable n cells tags grades) where
    pub tag-packed : (i : ℕ) → i < length tags → tag_of (record_bytes_at (packed n cells tags grades) i) ≡ get_or tags i 0
    tag-packed i l = ap tag_of (record-packed i l) ∙ tag-record_of n (get_or tags i 0) (get_or grades i 0) (row_of n cells i) (x.bits i l)

    pub code-packed : (i : ℕ) → i < length tags → (c : ℕ) → c < n → code_at (record_bytes_at (packed n cells tags grades) i) c ≡ row_of n cells i c
    code-packed i l c k =
        ap (λ (r : List ℕ). code_at r c) (record-packed i l) ∙ row-again n (get_or tags i 0) (get_or grades i 0) (row_of n cells i) x.wide (x.small i l) (x.narrow i l) c k

    pub tags-again : unpacked_tags (packed n cells tags grades) ≡ tags
    unfolding unpacked_tags
    tags-again =
        ap (λ (k : ℕ). tab k (λ i. tag_of (record_bytes_at (packed n cells tags grades) i))) fragments-packed
        ∙ tab-ext (length tags) _ _ tag-packed
        ∙ tab-again 0 tags

    pub grades-again : unpacked_grades (packed n cells tags grades) ≡ grades
    unfolding unpacked_grades
    grades-again =
        ap (λ (k : ℕ). tab k (λ i. grade_of (record_bytes_at (packed n cells tags grades) i))) fragments-packed
        ∙ tab-ext (length tags) _ _ grade-packed
        ∙ ap (λ (k : ℕ). tab k (λ i. get_or grades i 0)) (sym x.graded)
        ∙ tab-again 0 grades

    pub unpacked-again : unpacked_cells n (packed n cells tags grades) ≡ cells
    unfolding unpacked_cells row_of
    unpacked-again =
        ap (λ (k : ℕ). concat (tab k (λ i. tab n (code_at (record_bytes_at (packed n cells tags grades) i))))) fragments-packed
        ∙ ap concat (tab-ext (length tags) _ _ (λ i l. tab-ext n _ _ (code-packed i l)))
        ∙ cells-again 0 (length tags) n cells x.exact
