-- The rules that a table must keep, in the order in which they are tested (paper 01, "Refused tables").
-- Assumes nothing.
use Rattle.std.specs.Prelude.{ℕ, ◌+◌, ◌-◌, ◌%◌, Bool, List, [], ◌∷◌, ◌++◌, length, if◌then◌else◌}
use Rattle.below.specs.Below.{◌=?◌, ◌<?◌, ◌≤?◌, ◌and◌, ◌or◌, isnt, any_below, tab, concat}
use Rattle.fields.specs.Record.{start_of, span_of, grade_of, is_call_code, cell_of}
use Rattle.fields.specs.Table.{fragments, record_bytes_at, start_at, tag_at}
use Rattle.records.specs.Outcome.{Verdict, accepted, refused}

-- a rule's number, its place, and whether it is broken
pub record Rule : Type 0 where
  pub number : ℕ
  pub place : ℕ
  pub broken : Bool

abbrev pub rule : ℕ → ℕ → Bool → Rule
rule k p b = record { number = k; place = p; broken = b }

-- the first broken rule refuses; where none is broken the verdict is v
unfoldable pub decide : List Rule → Verdict → Verdict
decide [] v = v
decide (r ∷ rs) v = if r.broken then refused r.number r.place else decide rs v

-- 4, "out of frame": span over 96; start + span over n; span 0 and start not 0
unfoldable pub is_out_of_frame : ℕ → List ℕ → Bool
is_out_of_frame n r = 96 <? span_of r or n <? start_of r + span_of r or span_of r =? 0 and isnt (start_of r =? 0)

-- 5, "stray bits": byte 7 over 15, or any cell after the span not 0
unfoldable pub has_stray_bits : List ℕ → Bool
has_stray_bits r = 15 <? grade_of r or any_below 96 (λ k. span_of r ≤? k and isnt (cell_of r k =? 0))

-- 6, "unknown call": a code 3 in the span
unfoldable pub has_unknown_call : List ℕ → Bool
has_unknown_call r = any_below (span_of r) (λ k. cell_of r k =? 3)

-- 7, "open end": span over 0, first or last cell a hole
unfoldable pub has_open_end : List ℕ → Bool
has_open_end r = 0 <? span_of r and (cell_of r 0 =? 0 or cell_of r (span_of r - 1) =? 0)

-- a hole between two calls, among n codes
unfoldable pub gap_in : ℕ → (ℕ → ℕ) → Bool
gap_in n row = any_below n (λ c. row c =? 0 and any_below c (λ a. is_call_code (row a)) and any_below n (λ b. c <? b and is_call_code (row b)))

-- 8, "gapped": a hole between two calls
unfoldable pub gapped : List ℕ → Bool
gapped r = gap_in (span_of r) (cell_of r)

-- 9, "tag twice": an earlier record has the tag
unfoldable pub tag_twice : (ℕ → ℕ) → ℕ → Bool
tag_twice tag i = any_below i (λ h. tag h =? tag i)

-- the order of records, "by start, and at one start by tag": one with this start and tag comes before one with the others
unfoldable pub precedes : ℕ → ℕ → ℕ → ℕ → Bool
precedes start tag start' tag' = start <? start' or start =? start' and tag <? tag'

-- 13, "out of order": "a record comes before its predecessor in this order"
unfoldable pub is_out_of_order : (ℕ → ℕ) → (ℕ → ℕ) → ℕ → Bool
is_out_of_order start tag i = 0 <? i and precedes (start i) (tag i) (start (i - 1)) (tag (i - 1))

-- record i by 9 and 13, which look at the starts and tags of earlier records; pack's fragments too
unfoldable pub earlier_rules : (ℕ → ℕ) → (ℕ → ℕ) → ℕ → List Rule
earlier_rules start tag i = rule 9 i (tag_twice tag i) ∷ rule 13 i (is_out_of_order start tag i) ∷ []

-- record i by 4 to 7, which every service tests
unfoldable pub span_rules : ℕ → List ℕ → ℕ → List Rule
span_rules n table i =
    rule 4 i (is_out_of_frame n (record_bytes_at table i))
    ∷ rule 5 i (has_stray_bits (record_bytes_at table i))
    ∷ rule 6 i (has_unknown_call (record_bytes_at table i))
    ∷ rule 7 i (has_open_end (record_bytes_at table i))
    ∷ []

-- record i by 4 to 7, 9 and 13: "holes between calls" are taken
unfoldable pub record_rules : ℕ → List ℕ → ℕ → List Rule
record_rules n table i = span_rules n table i ++ earlier_rules (start_at table) (tag_at table) i

-- record i by 4 to 9 and 13, "S and F keep refusal 8"
unfoldable pub gapless_rules : ℕ → List ℕ → ℕ → List Rule
gapless_rules n table i = span_rules n table i ++ (rule 8 i (gapped (record_bytes_at table i)) ∷ earlier_rules (start_at table) (tag_at table) i)

-- "records from 0", each by 4 to 7, 9 and 13
unfoldable pub table_rules : ℕ → List ℕ → List Rule
table_rules n table = concat (tab (fragments table) (record_rules n table))

-- "records from 0, each by 4 to 9", and 13
unfoldable pub gapless_table_rules : ℕ → List ℕ → List Rule
gapless_table_rules n table = concat (tab (fragments table) (gapless_rules n table))

-- the sizes: 3, "too many SNPs"; 1, "ragged file"; 2, "too many fragments"
unfoldable pub size_rules : ℕ → List ℕ → List Rule
size_rules n table =
    rule 3 0 (128 <? n)
    ∷ rule 1 0 (isnt (length table % 32 =? 0))
    ∷ rule 2 0 (128 <? fragments table)
    ∷ []

-- a table by its sizes and then its records, whose holes are taken: accepted with m where no rule is broken
unfoldable pub table_verdict : ℕ → List ℕ → Verdict
table_verdict n table = decide (size_rules n table ++ table_rules n table) (accepted (fragments table))
