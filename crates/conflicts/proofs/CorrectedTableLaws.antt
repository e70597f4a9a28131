-- C's table by its bytes: the records with the corrected calls in their cells, and nothing else changed.
-- Assumes nothing.
use Rattle.std.specs.Prelude.{if◌then◌else◌}
use mathlib.Core.Path.{◌≡◌, sym, ap, ap₂, fun_ext, ◌∙◌}
use mathlib.Core.List.{List, [], ◌++◌}
use Prim.Native.Nat.{ℕ, ◌+◌, ◌*◌, ◌-◌, ◌/◌, ◌%◌, ◌^◌, ◌≤◌, ◌<◌}
use native.Mathlib.Decide.{dec_le}
use native.Mathlib.Omega.{arith}
use lib.Dec.{T}
use lib.ListN.{length, get_or, take, drop, replicate, length-append, length-replicate, get_or-append, drop_of_length-le}
use lib.Seq.{get_or-take, get_or-drop, get_or-append-add, length-take-le}
use Rattle.below.specs.Below.{◌<?◌, ◌≤?◌, ◌and◌, isnt, sum_below, tab, concat}
use Rattle.fields.specs.Record.{little_endian, start_of, span_of, grade_of, is_call_code, cell_of, code_at}
use Rattle.fields.specs.Grades.{weight_of}
use Rattle.fields.specs.Table.{fragments, record_bytes_at}
use Rattle.fields.specs.Writing.{cell_bytes}
use Rattle.below.proofs.BelowLaws.{if-ind, if-true, if-false, <?-lt, lt-<?, sum-ext, le-isnt}
use Rattle.fields.proofs.FieldLaws.{start-bytes, code_at-in, code_at-out}
use Rattle.fields.proofs.ByteLaws.{cell-past, cell-small, length-cell_bytes, cell_byte_of-at, code-written}
use Rattle.records.proofs.ExtentLaws.{call-range, no_call}
use Rattle.below.proofs.RowLaws.{tab-ext, length-laid-out, row_laid}
use Rattle.records.proofs.TableLaws.{fragments-of, length_whole, record_bytes_at-row, length-record_bytes_at, record_bytes_at-bytes}
use Rattle.conflicts.specs.Grid.{Grid, grid_of, with_cells}
use Rattle.conflicts.specs.Corrections.{least_cost_sides_of, corrected_cell, corrected}
use Rattle.conflicts.specs.Answer.{corrected_grid, rewritten_code, rewritten, records_with, corrected_table}
use Rattle.conflicts.specs.Minimality.{OthersKept}
use Rattle.conflicts.proofs.LetterLaws.{letter-call}

-- ---- rows that have one length below m

module _ (w m : ℕ) (f : ℕ → List ℕ) (even : (i : ℕ) → i < m → length (f i) ≡ w) where
  -- with rows of the same length from m on
  padded : ℕ → List ℕ
  padded i = if i <? m then f i else replicate w 0

  padded-even : (i : ℕ) → length (padded i) ≡ w
  unfolding padded
  padded-even i = if-ind (λ (l : List ℕ). length l ≡ w) (i <? m) (λ t. even i (<?-lt i m t)) (λ t. length-replicate {A = ℕ} w 0)

  padded-is : (i : ℕ) → i < m → padded i ≡ f i
  unfolding padded
  padded-is i h = if-true (i <? m) _ _ (lt-<? i m h)

  padded-same : tab m f ≡ tab m padded
  padded-same = tab-ext m f padded (λ i h. sym (padded-is i h))

  length-rows : length (concat (tab m f)) ≡ m * w
  length-rows = ap (λ (l : List (List ℕ)). length (concat l)) padded-same ∙ length-laid-out w padded padded-even m

  row_at : (i : ℕ) → i < m → take w (drop (i * w) (concat (tab m f))) ≡ f i
  row_at i h = ap (λ (l : List (List ℕ)). take w (drop (i * w) (concat l))) padded-same ∙ row_laid w padded padded-even m i h ∙ padded-is i h

-- ---- one record

-- four codes make a byte
four-codes : (f : ℕ → ℕ) → ((q : ℕ) → f q < 4) → sum_below 4 (λ q. 4 ^ q * f q) < 256
unfolding sum_below
four-codes f h = let a = h 0 in let b = h 1 in let c = h 2 in let d = h 3 in omega arith

module _ (r : List ℕ) (row : ℕ → ℕ) (full : length r ≡ 32) where
  abbrev codes : ℕ → ℕ
  codes = rewritten_code r row

  header-length : length (take 8 r) ≡ 8
  header-length = length-take-le 8 r (omega arith)

  pub rewritten-length : length (rewritten r row) ≡ 32
  unfolding rewritten
  rewritten-length = length-append (take 8 r) (cell_bytes codes) ∙ (let a = header-length in let b = length-cell_bytes codes in omega arith)

  pub rewritten-header : (b : ℕ) → b < 8 → get_or (rewritten r row) b 0 ≡ get_or r b 0
  unfolding rewritten
  rewritten-header b h = get_or-append (take 8 r) (cell_bytes codes) 0 b (omega (arith, header-length)) ∙ get_or-take 8 r b 0 h

  pub rewritten-byte-at : (b : ℕ) → 8 ≤ b → b < 32 → get_or (rewritten r row) b 0 ≡ sum_below 4 (λ q. 4 ^ q * rewritten_code r row (4 * (b - 8) + q))
  unfolding rewritten
  rewritten-byte-at b l h =
      ap (λ (k : ℕ). get_or (take 8 r ++ cell_bytes codes) k 0) (let e : b ≡ length (take 8 r) + (b - 8) = omega (arith, header-length) in e)
      ∙ get_or-append-add (take 8 r) (cell_bytes codes) (b - 8) 0
      ∙ cell_byte_of-at codes (b - 8) (omega arith)

  pub rewritten-start : start_of (rewritten r row) ≡ start_of r
  rewritten-start =
      start-bytes (rewritten r row)
      ∙ ap₂ (λ (x y : ℕ). x + 256 * y) (rewritten-header 4 (omega arith)) (rewritten-header 5 (omega arith))
      ∙ sym (start-bytes r)

  pub rewritten-span : span_of (rewritten r row) ≡ span_of r
  unfolding span_of
  rewritten-span = rewritten-header 6 (omega arith)

  module _ (small : (c : ℕ) → row c < 4) where
    codes-small : (i : ℕ) → codes i < 4
    unfolding rewritten_code
    codes-small i = if-ind (λ x. x < 4) (i <? span_of r) (λ t. small (start_of r + i)) (λ t. cell-small r i)

    rewritten-cell : (i : ℕ) → i < 96 → cell_of (rewritten r row) i ≡ codes i
    unfolding rewritten
    rewritten-cell i h = code-written (take 8 r) codes header-length (λ i l. codes-small i) i h

    -- a cell of the span has its column's code
    pub span-cell : (i : ℕ) → i < 96 → i < span_of r → cell_of (rewritten r row) i ≡ row (start_of r + i)
    unfolding rewritten_code
    span-cell i h l = rewritten-cell i h ∙ if-true (i <? span_of r) _ _ (lt-<? i (span_of r) l)

    -- and one after the span is the old one
    pub later-cell : (i : ℕ) → i < 96 → T (isnt (i <? span_of r)) → cell_of (rewritten r row) i ≡ cell_of r i
    unfolding rewritten_code
    later-cell i h l = rewritten-cell i h ∙ if-false (i <? span_of r) _ _ l

    -- where holes stay holes the record's row is the row given
    pub rewritten-code : ((c : ℕ) → code_at r c ≡ 0 → row c ≡ 0) → (c : ℕ) → code_at (rewritten r row) c ≡ row c
    rewritten-code holes c =
        elim (dec_le (start_of r) c) [
          | yes a ↦ elim (dec_le (start_of r + span_of r) c) [ yes b ↦ after b | no b ↦ inside a (omega arith) ]
          | no a ↦ before (omega arith)
        ]
      where
        new : List ℕ
        new = rewritten r row

        before : c < start_of r → code_at new c ≡ row c
        before h = code_at-out new c (λ k. absurd (omega (arith, rewritten-start))) ∙ sym (holes c (code_at-out r c (λ k. absurd (omega arith))))

        after : start_of r + span_of r ≤ c → code_at new c ≡ row c
        after h = code_at-out new c (λ k. omega (arith, rewritten-start, rewritten-span)) ∙ sym (holes c (code_at-out r c (λ k. h)))

        inside : start_of r ≤ c → c < start_of r + span_of r → code_at new c ≡ row c
        inside a b =
            code_at-in new c (omega (arith, rewritten-start)) (omega (arith, rewritten-start, rewritten-span))
            ∙ ap (λ (s : ℕ). cell_of new (c - s)) rewritten-start
            ∙ elim (dec_le 96 (c - start_of r)) [
              | yes l ↦ cell-past new (c - start_of r) l ∙ sym (holes c (code_at-in r c a b ∙ cell-past r (c - start_of r) l))
              | no l ↦ span-cell (c - start_of r) (omega arith) (omega arith) ∙ ap row (omega arith)
            ]

    -- bytes stay bytes
    rewritten-byte : ((b : ℕ) → b < 32 → get_or r b 0 < 256) → (b : ℕ) → b < 32 → get_or (rewritten r row) b 0 < 256
    unfolding rewritten
    rewritten-byte bytes b h =
        elim (dec_le 8 b) [
          | yes l ↦ rw (rewritten-byte-at b l h) (four-codes (λ q. codes (4 * (b - 8) + q)) (λ q. codes-small (4 * (b - 8) + q)))
          | no l ↦ rw (rewritten-header b (omega arith)) (bytes b h)
        ]

-- a row that is the same within the span gives the same record
pub rewritten-same : (r : List ℕ) (row other : ℕ → ℕ) → ((c : ℕ) → start_of r ≤ c → c < start_of r + span_of r → row c ≡ other c) → rewritten r row ≡ rewritten r other
unfolding rewritten rewritten_code cell_bytes
rewritten-same r row other same =
    ap (λ (l : List ℕ). take 8 r ++ l)
    (tab-ext 24 _ _ λ b h. sum-ext 4 _ _ λ q l. ap (λ (x : ℕ). 4 ^ q * x) (code (4 * b + q)))
  where
    code : (i : ℕ) → (if i <? span_of r then row (start_of r + i) else cell_of r i) ≡ (if i <? span_of r then other (start_of r + i) else cell_of r i)
    code i =
        if-ind (λ x. x ≡ (if i <? span_of r then other (start_of r + i) else cell_of r i)) (i <? span_of r)
        (λ t. same (start_of r + i) (omega arith) (let l = <?-lt _ _ t in omega arith) ∙ sym (if-true (i <? span_of r) _ _ t)) (λ t. sym (if-false (i <? span_of r) _ _ t))

-- ---- the table

record-byte : (t : List ℕ) (j : ℕ) → get_or t j 0 ≡ get_or (record_bytes_at t (j / 32)) (j % 32) 0
unfolding record_bytes_at
record-byte t j =
    sym (get_or-take 32 (drop (32 * (j / 32)) t) (j % 32) 0 (omega arith) ∙ get_or-drop (32 * (j / 32)) t (j % 32) 0 ∙ ap (λ (k : ℕ). get_or t k 0) (omega arith))

-- a corrected cell has two bits, and a hole stays
module _ (g : Grid) (sides : List ℕ) (i c : ℕ) where
  pub corrected-small : g.cell i c < 4 → (corrected g sides).cell i c < 4
  unfolding corrected with_cells corrected_cell
  corrected-small h = if-ind (λ x. x < 4) (is_call_code (g.cell i c)) (λ t. let l = call-range _ (letter-call g sides (get_or sides i 0) c) in omega arith) (λ t. h)

  pub corrected-two : g.cell i c ≤ 2 → (corrected g sides).cell i c ≤ 2
  unfolding corrected with_cells corrected_cell
  corrected-two h = if-ind (λ x. x ≤ 2) (is_call_code (g.cell i c)) (λ t. let l = call-range _ (letter-call g sides (get_or sides i 0) c) in omega arith) (λ t. h)

  pub corrected-hole : T (isnt (is_call_code (g.cell i c))) → (corrected g sides).cell i c ≡ g.cell i c
  unfolding corrected with_cells corrected_cell
  corrected-hole t = if-false (is_call_code (g.cell i c)) _ _ t

code-small : (r : List ℕ) (c : ℕ) → code_at r c < 4
unfolding code_at
code-small r c = if-ind (λ x. x < 4) (start_of r ≤? c and c <? start_of r + span_of r) (λ t. cell-small r (c - start_of r)) (λ t. omega arith)

module _ (n : ℕ) (table : List ℕ) where
  abbrev row : ℕ → ℕ → ℕ
  row = (corrected_grid (grid_of n table)).cell

  record-length : (i : ℕ) → i < fragments table → length (rewritten (record_bytes_at table i) (row i)) ≡ 32
  record-length i h = rewritten-length (record_bytes_at table i) (row i) (length-record_bytes_at table i h)

  pub length-corrected : length (corrected_table n table) ≡ fragments table * 32
  unfolding corrected_table records_with
  length-corrected = length-rows 32 (fragments table) (λ i. rewritten (record_bytes_at table i) (row i)) record-length

  pub record-corrected : (i : ℕ) → i < fragments table → record_bytes_at (corrected_table n table) i ≡ rewritten (record_bytes_at table i) (row i)
  unfolding corrected_table records_with
  record-corrected i h = record_bytes_at-row (corrected_table n table) i ∙ row_at 32 (fragments table) (λ i. rewritten (record_bytes_at table i) (row i)) record-length i h

  pub row_small : (i c : ℕ) → row i c < 4
  unfolding corrected_grid grid_of
  row_small i c = corrected-small (grid_of n table) (least_cost_sides_of 2 (grid_of n table)) i c (code-small (record_bytes_at table i) c)

  row-hole : (i c : ℕ) → code_at (record_bytes_at table i) c ≡ 0 → row i c ≡ 0
  unfolding corrected_grid grid_of
  row-hole i c e = corrected-hole (grid_of n table) (least_cost_sides_of 2 (grid_of n table)) i c (no_call _ e) ∙ e

  code-corrected : (i : ℕ) → i < fragments table → (c : ℕ) → code_at (record_bytes_at (corrected_table n table) i) c ≡ row i c
  code-corrected i h c =
      ap (λ (r : List ℕ). code_at r c) (record-corrected i h)
      ∙ rewritten-code (record_bytes_at table i) (row i) (length-record_bytes_at table i h) (row_small i) (row-hole i) c

  module _ (whole : length table % 32 ≡ 0) where
    -- past the last record there is none
    nothing-past : (t : List ℕ) → length t ≡ fragments table * 32 → (i : ℕ) → fragments table ≤ i → record_bytes_at t i ≡ []
    unfolding record_bytes_at
    nothing-past t e i h = ap (take 32) (drop_of_length-le t {i = 32 * i} (omega arith))

    code-past : (t : List ℕ) → length t ≡ fragments table * 32 → (i c : ℕ) → fragments table ≤ i → code_at (record_bytes_at t i) c ≡ 0
    unfolding start_of span_of little_endian
    code-past t e i c h = ap (λ (r : List ℕ). code_at r c) (nothing-past t e i h) ∙ code_at-out [] c (λ k. omega arith)

    grade-corrected : (i : ℕ) → grade_of (record_bytes_at (corrected_table n table) i) ≡ grade_of (record_bytes_at table i)
    unfolding grade_of
    grade-corrected i = elim (dec_le (fragments table) i) [
      | yes l ↦ ap grade_of (nothing-past (corrected_table n table) length-corrected i l ∙ sym (nothing-past table (length_whole table whole) i l))
      | no l ↦ ap grade_of (record-corrected i (omega arith)) ∙ rewritten-header (record_bytes_at table i) (row i) (length-record_bytes_at table i (omega arith)) 7 (omega arith)
    ]

    cell-corrected : (i c : ℕ) → code_at (record_bytes_at (corrected_table n table) i) c ≡ row i c
    cell-corrected i c = elim (dec_le (fragments table) i) [
      | yes l ↦ code-past (corrected_table n table) length-corrected i c l ∙ sym (row-hole i c (code-past table (length_whole table whole) i c l))
      | no l ↦ code-corrected i (omega arith) c
    ]

    -- C's table holds C's matrix, with the weights as they were
    pub grid-corrected : grid_of n (corrected_table n table) ≡ corrected_grid (grid_of n table)
    unfolding grid_of corrected_grid corrected with_cells
    grid-corrected =
        ap₂ (λ (m : ℕ) (cell : ℕ → ℕ → ℕ). record { m = m; n = n; cell = cell; weight = λ i. weight_of (grade_of (record_bytes_at (corrected_table n table) i)) })
        (fragments-of (corrected_table n table) (fragments table) length-corrected) (fun_ext λ i. fun_ext λ c. cell-corrected i c)
        ∙ ap (λ (grade : ℕ → ℕ). record { m = fragments table; n = n; cell = row; weight = λ i. weight_of (grade i) }) (fun_ext grade-corrected)

    -- and nothing else of it has changed
    pub others-kept : ((j : ℕ) → j < length table → get_or table j 0 < 256) → OthersKept table (corrected_table n table)
    others-kept bytes = record {
      size = length-corrected ∙ sym (length_whole table whole);
      bytes = λ j h.
          let i = j / 32 in
          let b = j % 32 in
          let hi : i < fragments table = omega (arith, length-corrected) in
          rw (record-byte (corrected_table n table) j, record-corrected i hi)
          (rewritten-byte (record_bytes_at table i) (row i) (length-record_bytes_at table i hi) (row_small i) (record_bytes_at-bytes table bytes i hi) b (omega arith));
      headers = λ i b h l. ap (λ (r : List ℕ). get_or r b 0) (record-corrected i h) ∙ rewritten-header (record_bytes_at table i) (row i) (length-record_bytes_at table i h) b l;
      later = λ i k h s l.
          ap (λ (r : List ℕ). cell_of r k) (record-corrected i h)
          ∙ later-cell (record_bytes_at table i) (row i) (length-record_bytes_at table i h) (row_small i) k l (le-isnt k (span_of (record_bytes_at table i)) s);
    }
