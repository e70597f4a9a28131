-- The eight services: the rules of each in the order in which they are tested, and everything that a call leaves (paper 01, "Refused tables").
-- Assumes nothing.
use Rattle.std.specs.Prelude.{ℕ, zero, suc, ◌*◌, List, [], ◌∷◌, ◌++◌, length, get_or, replicate, if◌then◌else◌}
use Rattle.below.specs.Below.{◌=?◌, ◌<?◌, ◌or◌, isnt, any_below, tab, concat}
use Rattle.fields.specs.Table.{fragments, part_start, part_length, position, unpacked_cells, unpacked_tags, unpacked_grades}
use Rattle.fields.specs.Writing.{calls_start_of, calls_span_of, without_calls, row_of, packed}
use Rattle.records.specs.Outcome.{Verdict, accepted, refused}
use Rattle.records.specs.Rules.{Rule, rule, decide, earlier_rules, size_rules, table_rules, gapless_table_rules}
use Rattle.conflicts.specs.Choice.{zeros, keep_all}
use Rattle.conflicts.specs.Grid.{Grid, grid_of, coverage}
use Rattle.conflicts.specs.Counts.{conflict_counts_of}
use Rattle.conflicts.specs.Sides.{error_free}
use Rattle.conflicts.specs.Removal.{snp_keep_marks_of, fragment_keep_marks_of}
use Rattle.conflicts.specs.Corrections.{changed_total}
use Rattle.conflicts.specs.Answer.{answer_size, check_answer, snp_answer, fragment_answer, correction_answer, corrected_table}

-- ---- the stages of the rules; records' size_rules, table_rules and gapless_table_rules are three more

-- 10, "short work": work under 32,768 numbers
unfoldable pub work_rules : List ℕ → List Rule
work_rules work = rule 10 0 (length work <? 32768) ∷ []

-- 11, "wrong buffer": an output's length is not exact
unfoldable pub length_rule : List ℕ → ℕ → Rule
length_rule output exact = rule 11 0 (isnt (length output =? exact))

-- 12, "too deep": over 8 fragments whose stretch covers a column
unfoldable pub depth_rules : Grid → List Rule
depth_rules g = tab g.n (λ c. rule 12 c (8 <? coverage g c))

-- pack's sizes: 3; 1, "cells not m × n", or grades not m; 2
unfoldable pub pack_size_rules : ℕ → List ℕ → List ℕ → List ℕ → List Rule
pack_size_rules n cells tags grades =
    rule 3 0 (128 <? n)
    ∷ rule 1 0 (isnt (length cells =? length tags * n) or isnt (length grades =? length tags))
    ∷ rule 2 0 (128 <? length tags)
    ∷ []

-- the start that pack would write for fragment i, and its tag
abbrev pub packed_start : ℕ → List ℕ → ℕ → ℕ
packed_start n cells i = calls_start_of n (row_of n cells i)

abbrev pub packed_tag : List ℕ → ℕ → ℕ
packed_tag tags i = get_or tags i 0

-- pack's fragment i but for its grade: 6, "a cell over 2"; 17, "no call"; 4, "calls reach over more than 96 columns"; 9 and 13
unfoldable pub ungraded_rules : ℕ → List ℕ → List ℕ → ℕ → List Rule
ungraded_rules n cells tags i =
    rule 6 i (any_below n (λ c. 2 <? row_of n cells i c))
    ∷ rule 17 i (without_calls n (row_of n cells i))
    ∷ rule 4 i (96 <? calls_span_of n (row_of n cells i))
    ∷ earlier_rules (packed_start n cells) (packed_tag tags) i

-- pack's fragment i: 5, a grade over 15, and then those
unfoldable pub fragment_rules : ℕ → List ℕ → List ℕ → List ℕ → ℕ → List Rule
fragment_rules n cells tags grades i = rule 5 i (15 <? get_or grades i 0) ∷ ungraded_rules n cells tags i

-- ---- the rules of each service

unfoldable pub unpack_rules : ℕ → List ℕ → List ℕ → List ℕ → List ℕ → List Rule
unpack_rules n table cells tags grades =
    concat (size_rules n table ∷ (length_rule cells (fragments table * n) ∷ length_rule tags (fragments table) ∷ length_rule grades (fragments table) ∷ []) ∷ table_rules n table ∷ [])

unfoldable pub pack_rules : ℕ → List ℕ → List ℕ → List ℕ → List ℕ → List Rule
pack_rules n cells tags grades table =
    concat (pack_size_rules n cells tags grades ∷ (length_rule table (32 * length tags) ∷ []) ∷ tab (length tags) (fragment_rules n cells tags grades))

unfoldable pub check_rules : ℕ → List ℕ → List ℕ → List Rule
check_rules n table answer = concat (size_rules n table ∷ (length_rule answer (answer_size (fragments table) n) ∷ []) ∷ table_rules n table ∷ [])

-- conflict_counts': 3, 1, 2; 11, "counts not exactly m × m bytes"; the records
unfoldable pub conflict_counts_rules : ℕ → List ℕ → List ℕ → List Rule
conflict_counts_rules n table counts = concat (size_rules n table ∷ (length_rule counts (fragments table * fragments table) ∷ []) ∷ table_rules n table ∷ [])

-- the first stages of S, F and C: 3, 1, 2; 10; 11 for the answer
unfoldable pub lent_stages : ℕ → List ℕ → List ℕ → List ℕ → List (List Rule)
lent_stages n table answer work = size_rules n table ∷ work_rules work ∷ (length_rule answer (answer_size (fragments table) n) ∷ []) ∷ []

-- S's and F's, which "keep refusal 8"
unfoldable pub removal_rules : ℕ → List ℕ → List ℕ → List ℕ → List Rule
removal_rules n table answer work = concat (lent_stages n table answer work ++ (gapless_table_rules n table ∷ []))

-- C's stages before 12: those, 11 for its table, and the records
unfoldable pub correction_stages : ℕ → List ℕ → List ℕ → List ℕ → List ℕ → List (List Rule)
correction_stages n table answer output work = lent_stages n table answer work ++ ((length_rule output (32 * fragments table) ∷ []) ∷ table_rules n table ∷ [])

unfoldable pub correction_rules : ℕ → List ℕ → List ℕ → List ℕ → List ℕ → List Rule
correction_rules n table answer output work = concat (correction_stages n table answer output work ++ (depth_rules (grid_of n table) ∷ []))

-- ---- what a buffer holds after a call

-- "a refusal writes nothing"
abbrev pub written : Verdict → List ℕ → List ℕ → List ℕ
written (accepted count) new old = new
written (refused number place) new old = old

-- "a no from check leaves the answer untouched"
abbrev pub written_on_yes : Verdict → List ℕ → List ℕ → List ℕ
written_on_yes (accepted zero) new old = new
written_on_yes (accepted (suc count)) new old = old
written_on_yes (refused number place) new old = old

-- the work buffer, "all zero after acceptance"
abbrev pub work_after : Verdict → List ℕ → List ℕ
work_after (accepted count) old = replicate (length old) 0
work_after (refused number place) old = old

-- ---- everything that a call leaves, from what it is given; the last arguments are the lent buffers before the call

pub record Unpacked : Type 0 where
  pub outcome : Verdict
  pub cells : List ℕ
  pub tags : List ℕ
  pub grades : List ℕ

-- unpack: "m × n cells, one byte each by fragment and then column, and m tags", and m grades; "unpack and pack return m"
unfoldable pub unpack_leaves : ℕ → List ℕ → List ℕ → List ℕ → List ℕ → Unpacked
unpack_leaves n table cells tags grades =
    let v = decide (unpack_rules n table cells tags grades) (accepted (fragments table)) in
    record { outcome = v; cells = written v (unpacked_cells n table) cells; tags = written v (unpacked_tags table) tags; grades = written v (unpacked_grades table) grades }

pub record Packed : Type 0 where
  pub outcome : Verdict
  pub table : List ℕ

-- pack: "the reverse; its m is the number of tags given"
unfoldable pub pack_leaves : ℕ → List ℕ → List ℕ → List ℕ → List ℕ → Packed
pack_leaves n cells tags grades table =
    let v = decide (pack_rules n cells tags grades table) (accepted (length tags)) in
    record { outcome = v; table = written v (packed n cells tags grades) table }

pub record Found : Type 0 where
  pub start : ℕ
  pub count : ℕ

-- find: where the bytes that it hands back start in the table, and how many they are; "find refuses nothing"
unfoldable pub find_leaves : ℕ → List ℕ → Found
find_leaves tag table = record { start = part_start table (position tag table); count = part_length table (position tag table) }

pub record Checked : Type 0 where
  pub outcome : Verdict
  pub answer : List ℕ

-- check: "0 for yes and 1 for no"
unfoldable pub check_leaves : ℕ → List ℕ → List ℕ → Checked
check_leaves n table answer =
    let g = grid_of n table in
    let v = decide (check_rules n table answer) (accepted (if error_free 2 g (keep_all g.n) (keep_all g.m) then 0 else 1)) in
    record { outcome = v; answer = written_on_yes v (check_answer g) answer }

pub record Counted : Type 0 where
  pub outcome : Verdict
  pub counts : List ℕ

-- conflict_counts: "fills m × m bytes with it for a table"; "returns m"
unfoldable pub conflict_counts_leaves : ℕ → List ℕ → List ℕ → Counted
conflict_counts_leaves n table counts =
    let v = decide (conflict_counts_rules n table counts) (accepted (fragments table)) in
    record { outcome = v; counts = written v (conflict_counts_of (grid_of n table)) counts }

pub record Removed : Type 0 where
  pub outcome : Verdict
  pub answer : List ℕ
  pub work : List ℕ

-- S: "the count returned equals the 0 marks"
unfoldable pub snp_removal_leaves : ℕ → List ℕ → List ℕ → List ℕ → Removed
snp_removal_leaves n table answer work =
    let g = grid_of n table in
    let v = decide (removal_rules n table answer work) (accepted (zeros (snp_keep_marks_of g))) in
    record { outcome = v; answer = written v (snp_answer g) answer; work = work_after v work }

-- F: "the 0 sides"
unfoldable pub fragment_removal_leaves : ℕ → List ℕ → List ℕ → List ℕ → Removed
fragment_removal_leaves n table answer work =
    let g = grid_of n table in
    let v = decide (removal_rules n table answer work) (accepted (zeros (fragment_keep_marks_of g))) in
    record { outcome = v; answer = written v (fragment_answer g) answer; work = work_after v work }

pub record CorrectionsLeft : Type 0 where
  pub outcome : Verdict
  pub answer : List ℕ
  pub table : List ℕ
  pub work : List ℕ

-- C: "the least total, which is the sum over the changed cells", of its table against the one given
unfoldable pub corrections_leaves : ℕ → List ℕ → List ℕ → List ℕ → List ℕ → CorrectionsLeft
corrections_leaves n table answer output work =
    let g = grid_of n table in
    let v = decide (correction_rules n table answer output work) (accepted (changed_total g (grid_of n (corrected_table n table)))) in
    record { outcome = v; answer = written v (correction_answer g) answer; table = written v (corrected_table n table) output; work = work_after v work }
