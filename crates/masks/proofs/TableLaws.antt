-- The matrix of a table's lines: it has the removals of the table's bytes, it is gapless where the table is, and its fragments rise by start.
-- Assumes nothing.
use mathlib.Core.Path.{◌≡◌, sym, ap, ap₂, subst, ◌∙◌}
use mathlib.Core.List.{List}
use Prim.Native.Nat.{ℕ, ◌≤◌, ◌<◌}
use native.Mathlib.Decide.{dec_lt}
use native.Mathlib.Omega.{arith}
use lib.Dec.{T}
use Rattle.below.specs.Below.{◌and◌}
use Rattle.below.proofs.RowLaws.{tab-ext}
use Rattle.below.proofs.SearchLaws.{<?-true, <?-false}
use Rattle.fields.specs.Record.{grade_of, code_at}
use Rattle.fields.specs.Grades.{weight_of}
use Rattle.fields.specs.Table.{fragments, record_bytes_at, start_at, tag_at}
use Rattle.fields.specs.Writing.{calls_start_of}
use Rattle.records.specs.Algorithm.Kept.{SizesKept, RecordsKept, GaplessKept}
use Rattle.records.proofs.AcceptedLaws.{accepted-sound, accepted-earlier, accepted-gapless, sized-count, sized-n, sized-m}
use Rattle.records.proofs.OrderLaws.{starts-rise}
use Rattle.records.proofs.PackLaws.{Sound, calls_same}
use Rattle.records.proofs.SoundLaws.{sound-row-start, sound-row-small}
use Rattle.conflicts.specs.Grid.{Grid, grid_of, with_rows, calls_conflict, gapless}
use Rattle.conflicts.specs.Removal.{snp_keep_marks_of, fragment_keep_marks_of}
use Rattle.conflicts.proofs.GapLaws.{gapless-table}
use Rattle.conflicts.proofs.SameLaws.{snp-conflicts, fragment-conflicts}
use Rattle.conflicts.proofs.AlikeLaws.{gapless-cells}
use Rattle.matrix.specs.Algorithm.Matrix.{Gapless, Rising}
use Rattle.places.specs.declared.lines.Line.{Line}
use Rattle.places.proofs.PlaceLaws.{where-ext}
use Rattle.masks.specs.Algorithm.Masks.{has_letter, line_of, mask_words, line_at, Masks, code_in, words_grid}
use Rattle.masks.proofs.LineLaws.{line}
use Rattle.masks.proofs.ColumnLaws.{words-cell}

module _ {n m : ℕ} {table : List ℕ} {lines : List Line} (sized : SizesKept n m table) (kept : RecordsKept n table) (are : lines ≡ mask_words (grid_of n table)) where
  sound : (i : ℕ) → i < fragments table → Sound n (record_bytes_at table i)
  sound i h = accepted-sound n table _ _ kept.kept i h

  few : fragments table ≤ 128
  few = let e = sized-count sized in let h = sized-m sized in omega arith

  -- the lines are those of the table
  pub table-masks : Masks (grid_of n table) lines
  unfolding grid_of
  table-masks = record { few = few; narrow = sized-n sized; are = are }

  abbrev cell : ℕ → ℕ → ℕ
  cell i c = code_at (record_bytes_at table i) c

  abbrev weight : ℕ → ℕ
  weight i = weight_of (grade_of (record_bytes_at table i))

  -- the matrix of the lines, by the number of records
  abbrev counted : Grid
  counted = words_grid (fragments table) n lines

  grid-is : words_grid m n lines ≡ counted
  grid-is = ap (λ (k : ℕ). words_grid k n lines) (sym (sized-count sized))

  small : (i c : ℕ) → i < fragments table → cell i c ≤ 2
  small i c hi = sound-row-small n (record_bytes_at table i) (sound i hi) c

  same : (i c : ℕ) → i < fragments table → c < n → code_in (line_at lines i) c ≡ cell i c
  unfolding grid_of
  same i c hi hc = words-cell (grid_of n table) table-masks (λ i c hi hc. small i c hi) i c hi hc

  conflicts-same : (i j c : ℕ) → i < fragments table → j < fragments table → c < n → calls_conflict (code_in (line_at lines i) c) (code_in (line_at lines j) c) ≡ calls_conflict (cell i c) (cell j c)
  conflicts-same i j c hi hj hc = ap₂ calls_conflict (same i c hi hc) (same j c hj hc)

  letter-same : (letter i c : ℕ) → has_letter (grid_of n table) letter i c ≡ has_letter counted letter i c
  unfolding has_letter grid_of words_grid ◌and◌
  letter-same letter i c = elim (dec_lt i (fragments table)) [
    | no h ↦ rw (<?-false i (fragments table) (omega arith))
    | yes h ↦ elim (dec_lt c n) [
      | no l ↦ rw (<?-true i (fragments table) h, <?-false c n (omega arith))
      | yes l ↦ rw (<?-true i (fragments table) h, <?-true c n l, same i c h l)
    ]
  ]

  pub words-masks : Masks (words_grid m n lines) lines
  unfolding words_grid mask_words line_of
  words-masks = record {
    few = sized-m sized;
    narrow = sized-n sized;
    are = are ∙ tab-ext 128 _ _ (λ i h. ap₂ line (where-ext _ _ (λ c l. letter-same 1 i c)) (where-ext _ _ (λ c l. letter-same 2 i c))) ∙ ap mask_words (sym grid-is);
  }

  pub words-snp : snp_keep_marks_of (words_grid m n lines) ≡ snp_keep_marks_of (grid_of n table)
  unfolding words_grid grid_of with_rows
  words-snp = ap snp_keep_marks_of grid-is ∙ snp-conflicts counted cell weight conflicts-same

  pub words-fragment : fragment_keep_marks_of (words_grid m n lines) ≡ fragment_keep_marks_of (grid_of n table)
  unfolding words_grid grid_of with_rows
  words-fragment = ap fragment_keep_marks_of grid-is ∙ fragment-conflicts counted cell weight conflicts-same

  words-gapless-as : gapless (words_grid m n lines) ≡ gapless (grid_of n table)
  unfolding words_grid grid_of with_rows
  words-gapless-as = ap gapless grid-is ∙ gapless-cells counted cell weight same

  pub words-gapless : GaplessKept n table → Gapless (words_grid m n lines)
  unfolding words_grid
  words-gapless gaps = record {
    no_gap = subst T (sym words-gapless-as) (gapless-table n table sound (accepted-gapless gaps));
    codes = λ i c hi hc. let e = sized-count sized in rw (same i c (omega arith) hc) (small i c (omega arith));
  }

  -- a fragment's first call is at its record's start
  start_is : (p : ℕ) → p < fragments table → calls_start_of n (λ c. code_in (line_at lines p) c) ≡ start_at table p
  start_is p h = (calls_same n _ (code_at (record_bytes_at table p)) (λ c l. same p c h l)).0 ∙ sound-row-start n (record_bytes_at table p) (sound p h)

  pub words-rising : Rising (words_grid m n lines)
  unfolding words_grid
  words-rising = record {
    rises = λ p q pq qm.
        let inside : q < fragments table = let e = sized-count sized in omega arith in
        let a = start_is p (omega arith) in
        let b = start_is q inside in
        let r = starts-rise (fragments table) (start_at table) (tag_at table) (accepted-earlier n table _ _ kept.kept) p q pq inside in
        omega arith;
  }
