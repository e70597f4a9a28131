-- The rules of a record by a switch, and what a call knows once the first stages of its rules are kept.
-- Assumes nothing.
use Rattle.std.specs.Prelude.{◌≡◌, Bool, List, [], ◌∷◌, ℕ, if◌then◌else◌}
use Rattle.below.specs.Below.{◌and◌}
use Rattle.fields.specs.Table.{fragments}
use Rattle.records.specs.Outcome.{accepted}
use Rattle.records.specs.Rules.{Rule, rule, decide, is_out_of_frame, has_stray_bits, has_unknown_call, has_open_end, gapped, record_rules, gapless_rules, size_rules, table_rules, gapless_table_rules}

-- record i by 4 to 9 and 13 where it must be gapless, else without 8
unfoldable pub rules_of : Bool → ℕ → List ℕ → ℕ → List Rule
rules_of gapless n table i = if gapless then gapless_rules n table i else record_rules n table i

-- a record's cells by 5 to 7, and by 8 where it must be gapless
unfoldable pub cell_rules : Bool → List ℕ → ℕ → List Rule
cell_rules gapless r i = rule 5 i (has_stray_bits r) ∷ rule 6 i (has_unknown_call r) ∷ rule 7 i (has_open_end r) ∷ rule 8 i (gapless and gapped r) ∷ []

-- … and by 4 before them
unfoldable pub span_rules_of : Bool → ℕ → List ℕ → ℕ → List Rule
unfolding cell_rules
span_rules_of gapless n r i = rule 4 i (is_out_of_frame n r) ∷ cell_rules gapless r i

-- rules 3, 1 and 2 are kept by a table of m fragments and n columns
pub record SizesKept (n m : ℕ) (table : List ℕ) : Type 0 where
  pub kept : decide (size_rules n table) (accepted (fragments table)) ≡ accepted m

-- rules 4 to 7, 9 and 13 are kept by every record of a table
pub record RecordsKept (n : ℕ) (table : List ℕ) : Type 0 where
  pub count : ℕ
  pub kept : decide (table_rules n table) (accepted (fragments table)) ≡ accepted count

-- … and 8 too
pub record GaplessKept (n : ℕ) (table : List ℕ) : Type 0 where
  pub count : ℕ
  pub kept : decide (gapless_table_rules n table) (accepted (fragments table)) ≡ accepted count
