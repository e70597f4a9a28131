-- What files without grades get: the verdict that they had (paper 02, T-07: "Files with grade 0 get the answers they had"). The rules from before grades stand here as they were.
-- Assumes nothing.
use Rattle.std.specs.Prelude.{◌≡◌, Bool, List, [], ◌∷◌, ◌++◌, ℕ, ◌*◌, ◌<◌, length, get_or}
use Rattle.below.specs.Below.{◌=?◌, ◌<?◌, ◌≤?◌, ◌and◌, ◌or◌, isnt, any_below, tab, concat}
use Rattle.fields.specs.Record.{span_of, grade_of, cell_of}
use Rattle.fields.specs.Table.{fragments, record_bytes_at, start_at, tag_at}
use Rattle.fields.specs.Writing.{record_of, row_of, packed}
use Rattle.records.specs.Outcome.{Verdict}
use Rattle.records.specs.Rules.{Rule, rule, decide, is_out_of_frame, has_unknown_call, has_open_end, gapped, earlier_rules, size_rules}
use Rattle.conflicts.specs.Grid.{grid_of}
use Rattle.conflicts.specs.Answer.{answer_size}
use Rattle.conflicts.specs.Services.{length_rule, depth_rules, lent_stages, ungraded_rules, unpack_rules, pack_rules, check_rules, conflict_counts_rules, removal_rules, correction_rules}

-- ---- the rules from before grades

-- 5, "stray bits": "byte 7 not 0, or any cell after the span not 0"
unfoldable pub stray_before : List ℕ → Bool
stray_before r = isnt (grade_of r =? 0) or any_below 96 (λ k. span_of r ≤? k and isnt (cell_of r k =? 0))

-- record i by 4 to 7
unfoldable pub span_rules_before : ℕ → List ℕ → ℕ → List Rule
span_rules_before n table i =
    rule 4 i (is_out_of_frame n (record_bytes_at table i))
    ∷ rule 5 i (stray_before (record_bytes_at table i))
    ∷ rule 6 i (has_unknown_call (record_bytes_at table i))
    ∷ rule 7 i (has_open_end (record_bytes_at table i))
    ∷ []

-- the records by 4 to 7, 9 and 13
unfoldable pub table_rules_before : ℕ → List ℕ → List Rule
table_rules_before n table = concat (tab (fragments table) (λ i. span_rules_before n table i ++ earlier_rules (start_at table) (tag_at table) i))

-- the records by 4 to 9 and 13, for S and F
unfoldable pub gapless_table_rules_before : ℕ → List ℕ → List Rule
gapless_table_rules_before n table =
    concat (tab (fragments table) (λ i. span_rules_before n table i ++ (rule 8 i (gapped (record_bytes_at table i)) ∷ earlier_rules (start_at table) (tag_at table) i)))

-- pack's sizes: 3; 1, "cells not m × n"; 2
unfoldable pub pack_size_rules_before : ℕ → List ℕ → List ℕ → List Rule
pack_size_rules_before n cells tags = rule 3 0 (128 <? n) ∷ rule 1 0 (isnt (length cells =? length tags * n)) ∷ rule 2 0 (128 <? length tags) ∷ []

-- ---- tables without grades

-- byte 7 of every record is 0
abbrev pub Ungraded : List ℕ → Type 0
Ungraded table = (i : ℕ) → i < fragments table → grade_of (record_bytes_at table i) ≡ 0

-- each service's verdict on a table, whatever it would accept with, is that of its rules from before: the records by those, and for unpack no length but that of cells and tags
pub record VerdictsAsBefore (n : ℕ) (table : List ℕ) : Type 0 where
  pub unpack : (cells tags grades : List ℕ) (v : Verdict) → length grades ≡ fragments table
      → decide (unpack_rules n table cells tags grades) v ≡ decide (concat (size_rules n table ∷ (length_rule cells (fragments table * n) ∷ length_rule tags (fragments table) ∷ []) ∷ table_rules_before n table ∷ [])) v
  pub check : (answer : List ℕ) (v : Verdict)
      → decide (check_rules n table answer) v ≡ decide (concat (size_rules n table ∷ (length_rule answer (answer_size (fragments table) n) ∷ []) ∷ table_rules_before n table ∷ [])) v
  pub counts : (counts : List ℕ) (v : Verdict)
      → decide (conflict_counts_rules n table counts) v ≡ decide (concat (size_rules n table ∷ (length_rule counts (fragments table * fragments table) ∷ []) ∷ table_rules_before n table ∷ [])) v
  -- S's and F's
  pub removals : (answer work : List ℕ) (v : Verdict)
      → decide (removal_rules n table answer work) v ≡ decide (concat (lent_stages n table answer work ++ (gapless_table_rules_before n table ∷ []))) v
  pub corrections : (answer output work : List ℕ) (v : Verdict)
      → decide (correction_rules n table answer output work) v
      ≡ decide (concat (lent_stages n table answer work ++ ((length_rule output (32 * fragments table) ∷ []) ∷ table_rules_before n table ∷ []) ++ (depth_rules (grid_of n table) ∷ []))) v

-- of every table whose grades are 0
abbrev pub UngradedAsBefore : Type 0
UngradedAsBefore = (n : ℕ) (table : List ℕ) → Ungraded table → VerdictsAsBefore n table

-- ---- pack

-- pack's verdict is that of its rules from before, without 5 and without grades, and the records that it writes have 0 in byte 7
pub record PackAsBefore (n : ℕ) (cells tags grades table : List ℕ) : Type 0 where
  pub verdict : (v : Verdict)
      → decide (pack_rules n cells tags grades table) v ≡ decide (concat (pack_size_rules_before n cells tags ∷ (length_rule table (32 * length tags) ∷ []) ∷ tab (length tags) (ungraded_rules n cells tags))) v
  pub records : packed n cells tags grades ≡ concat (tab (length tags) (λ i. record_of n (get_or tags i 0) 0 (row_of n cells i)))

-- of m grades that are all 0
abbrev pub PackUngradedAsBefore : Type 0
PackUngradedAsBefore = (n : ℕ) (cells tags grades table : List ℕ) → length grades ≡ length tags → ((i : ℕ) → i < length tags → get_or grades i 0 ≡ 0) → PackAsBefore n cells tags grades table
