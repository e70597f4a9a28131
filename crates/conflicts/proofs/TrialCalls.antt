-- What the computed trials are made of: calls with all that they are lent, what is expected of them, and the test.
-- Assumes nothing.
use Rattle.std.specs.Prelude.{if◌then◌else◌}
use mathlib.Core.Bool.{Bool, ◌&&◌}
use mathlib.Core.List.{List, [], ◌∷◌}
use Prim.Native.Nat.{ℕ, suc, ◌*◌}
use Prim.Native.String.{String}
use lib.Dec.{eqb}
use lib.ListN.{length, replicate}
use Rattle.below.specs.Below.{bit, ◌=?◌, ◌<?◌, ◌≤?◌, ◌and◌, ◌or◌, isnt, all_below, any_below, sum_below, count_below, first_below, end_below, tab, tab_from, concat}
use Rattle.fields.specs.Record.{little_endian, tag_of, start_of, span_of, grade_of, is_call_code, cell_of, code_at}
use Rattle.fields.specs.Grades.{weights, weight_of}
use Rattle.fields.specs.Table.{fragments, record_bytes_at, part_start, part_length, position, unpacked_cells, unpacked_tags, unpacked_grades}
use Rattle.fields.specs.Writing.{bytes_of, cell_bytes, calls_end_of, calls_start_of, calls_span_of, without_calls, cut, laid_out, record_of, row_of, packed}
use Rattle.records.specs.Outcome.{Verdict, accepted}
use Rattle.records.specs.Rules.{decide, is_out_of_frame, has_stray_bits, has_unknown_call, has_open_end, gap_in, gapped, tag_twice, precedes, is_out_of_order, earlier_rules, span_rules, record_rules, gapless_rules, table_rules, gapless_table_rules, size_rules}
use Rattle.conflicts.specs.Choice.{choices, passing, some, first, least_of, first_least, marked, zeros, keep_all, keep_lists}
use Rattle.conflicts.specs.Grid.{grid_of, with_cells, calls_conflict, conflict_on, conflict_on_kept, stretch_covers, coverage}
use Rattle.conflicts.specs.Counts.{conflict_count_of, conflict_counts_of}
use Rattle.conflicts.specs.Sides.{sides_of, side_lists, same_side, lawful, error_free, first_sides_of}
use Rattle.conflicts.specs.Removal.{snp_keep_marks_of, fragment_keep_marks_of}
use Rattle.conflicts.specs.Corrections.{correction_cost, letter_weight, side_price, majority_letter, column_cost, cost, least_cost_sides_of, side_letter, corrected_cell, corrected, differs, cell_total, changed_total}
use Rattle.conflicts.specs.Haplotypes.{side_call, haplotype, haplotypes}
use Rattle.conflicts.specs.Blocks.{linked, reached, lowest, block}
use Rattle.conflicts.specs.Answer.{answer_size, answer, check_answer, snp_answer, fragment_answer, corrected_grid, correction_answer, rewritten_code, rewritten, records_with, corrected_table}
use Rattle.conflicts.specs.Services.{work_rules, length_rule, depth_rules, pack_size_rules, ungraded_rules, fragment_rules, unpack_rules, pack_rules, check_rules, conflict_counts_rules, lent_stages, removal_rules, correction_stages, correction_rules, unpack_leaves, pack_leaves, find_leaves, check_leaves, conflict_counts_leaves, snp_removal_leaves, fragment_removal_leaves, corrections_leaves}
use Rattle.conflicts.specs.Host.{host_read}
use Rattle.records.proofs.TrialTools.{same_verdict, same_list}
use Rattle.records.proofs.TrialText.{count_in, answer_in, marks, cells, frag, table_from, with_grades}

-- ---- calls

-- a call: what it is given, and then the buffers that it is lent
pub data Call : Type 0 where
  unpack : ℕ → List ℕ → List ℕ → List ℕ → List ℕ → Call
  pack : ℕ → List ℕ → List ℕ → List ℕ → List ℕ → Call
  check : ℕ → List ℕ → List ℕ → Call
  counts : ℕ → List ℕ → List ℕ → Call
  S : ℕ → List ℕ → List ℕ → List ℕ → Call
  F : ℕ → List ℕ → List ℕ → List ℕ → Call
  C : ℕ → List ℕ → List ℕ → List ℕ → List ℕ → Call

-- what a call leaves: its outcome and its buffers but the work buffer
unfoldable pub leaves : Call → Verdict × List (List ℕ)
leaves (unpack n table cells tags grades) = let r = unpack_leaves n table cells tags grades in (r.outcome, r.cells ∷ r.tags ∷ r.grades ∷ [])
leaves (pack n cells tags grades table) = let r = pack_leaves n cells tags grades table in (r.outcome, r.table ∷ [])
leaves (check n table answer) = let r = check_leaves n table answer in (r.outcome, r.answer ∷ [])
leaves (counts n table bytes) = let r = conflict_counts_leaves n table bytes in (r.outcome, r.counts ∷ [])
leaves (S n table answer work) = let r = snp_removal_leaves n table answer work in (r.outcome, r.answer ∷ [])
leaves (F n table answer work) = let r = fragment_removal_leaves n table answer work in (r.outcome, r.answer ∷ [])
leaves (C n table answer output work) = let r = corrections_leaves n table answer output work in (r.outcome, r.answer ∷ r.table ∷ [])

-- its work buffer; none is lent to unpack, pack, check and conflict_counts
work_left : Call → List ℕ
work_left (unpack n table cells tags grades) = []
work_left (pack n cells tags grades table) = []
work_left (check n table answer) = []
work_left (counts n table bytes) = []
work_left (S n table answer work) = (snp_removal_leaves n table answer work).work
work_left (F n table answer work) = (fragment_removal_leaves n table answer work).work
work_left (C n table answer output work) = (corrections_leaves n table answer output work).work

-- its buffers before, but the work buffer
lent : Call → List (List ℕ)
lent (unpack n table cells tags grades) = cells ∷ tags ∷ grades ∷ []
lent (pack n cells tags grades table) = table ∷ []
lent (check n table answer) = answer ∷ []
lent (counts n table bytes) = bytes ∷ []
lent (S n table answer work) = answer ∷ []
lent (F n table answer work) = answer ∷ []
lent (C n table answer output work) = answer ∷ output ∷ []

-- ---- calls with buffers of the right lengths

-- before a call every number of a buffer is 9
unfoldable pub nines : ℕ → List ℕ
nines k = replicate k 9

-- a work buffer of the least length
unfoldable pub work9 : List ℕ
work9 = nines 32768

-- an answer for a table
unfoldable pub answer9 : ℕ → List ℕ → List ℕ
answer9 n table = nines (answer_size (fragments table) n)

-- unpack with such buffers
unfoldable pub unpack_on : ℕ → List ℕ → Call
unpack_on n table = unpack n table (nines (fragments table * n)) (nines (fragments table)) (nines (fragments table))

-- pack with such a buffer, and every grade 0
unfoldable pub pack_on : ℕ → List ℕ → List ℕ → Call
pack_on n cells tags = pack n cells tags (replicate (length tags) 0) (nines (32 * length tags))

-- check with such a buffer
unfoldable pub check_on : ℕ → List ℕ → Call
check_on n table = check n table (answer9 n table)

-- conflict_counts with such a buffer
unfoldable pub counts_on : ℕ → List ℕ → Call
counts_on n table = counts n table (nines (fragments table * fragments table))

-- S with such buffers
unfoldable pub s_on : ℕ → List ℕ → Call
s_on n table = S n table (answer9 n table) work9

-- F with such buffers
unfoldable pub f_on : ℕ → List ℕ → Call
f_on n table = F n table (answer9 n table) work9

-- C with such buffers
unfoldable pub c_on : ℕ → List ℕ → Call
c_on n table = C n table (answer9 n table) (nines (length table)) work9

-- ---- trials

-- accepts: the call returns this count and leaves these buffers. keeps: it returns this and leaves its buffers as they were. works: its work buffer, whole, is this then.
-- finds: of a tag and a table, the part starts here and has so many bytes. equals: one number and another. reads: of a base and a host's number, this outcome
pub data Trial : Type 0 where
  accepts : Call → ℕ → List (List ℕ) → Trial
  keeps : Call → Verdict → Trial
  works : Call → List ℕ → Trial
  finds : ℕ → List ℕ → ℕ → ℕ → Trial
  equals : ℕ → ℕ → Trial
  reads : ℕ → ℕ → Verdict → Trial

-- unpack gives these cells and tags, and every grade 0
unfoldable pub unpacks : Call → ℕ → List ℕ → List ℕ → Trial
unpacks call count cells tags = accepts call count (cells ∷ tags ∷ replicate (length tags) 0 ∷ [])

-- check, S or F answers as the listing prints it after the letter: count, keep marks, haplotype 1, haplotype 2, sides, blocks
unfoldable pub answers : Call → String → Trial
unfolding count_in answer_in
answers call line = accepts call (count_in line) (answer_in line ∷ [])

-- C answers so, and corrects the table to this one
unfoldable pub corrects : Call → String → List ℕ → Trial
unfolding count_in answer_in
corrects call line table = accepts call (count_in line) (answer_in line ∷ table ∷ [])

-- every service that tests a table's records returns this and leaves its buffers as they were
unfoldable pub all_keep : ℕ → List ℕ → Verdict → List Trial
all_keep n table v = keeps (unpack_on n table) v ∷ keeps (check_on n table) v ∷ keeps (counts_on n table) v ∷ keeps (s_on n table) v ∷ keeps (f_on n table) v ∷ keeps (c_on n table) v ∷ []

-- 1 where all fragments of a table are error-free on the columns that these marks keep, else 0
unfoldable pub free_on : ℕ → List ℕ → List ℕ → ℕ
free_on n table keep_cols = bit (error_free 2 (grid_of n table) keep_cols (keep_all (fragments table)))

-- on how many of the columns that these marks keep fragments i and j of a table conflict
unfoldable pub count_on : ℕ → List ℕ → List ℕ → ℕ → ℕ → ℕ
count_on n table keep_cols i j = conflict_count_of (grid_of n table) keep_cols i j

-- how many fragments' stretches cover a column of a table
unfoldable pub coverage_on : ℕ → List ℕ → ℕ → ℕ
coverage_on n table c = coverage (grid_of n table) c

-- what C's rules say of a table, accepted with 0 where none is broken: no side list is tried
unfoldable pub ruled_on : ℕ → List ℕ → Verdict
ruled_on n table = decide (correction_rules n table (answer9 n table) (nines (length table)) work9) (accepted 0)

-- what sides cost in a table
unfoldable pub cost_of : ℕ → List ℕ → List ℕ → ℕ
cost_of n table sides = cost 2 (grid_of n table) sides

-- a call leaves this outcome and these buffers
left : Call → Verdict → List (List ℕ) → Bool
left call outcome buffers = let r = leaves call in same_verdict r.0 outcome && same_list (same_list eqb) r.1 buffers

-- a trial passes; to unfold this unfolds all that a trial computes with
passes : Trial → Bool
unfolding marks cells frag table_from with_grades leaves work_left lent nines work9 answer9 unpack_on pack_on check_on counts_on s_on f_on c_on unpacks answers corrects all_keep free_on count_on coverage_on ruled_on cost_of left same_verdict same_list host_read
    ◌=?◌ ◌<?◌ ◌≤?◌ ◌and◌ ◌or◌ isnt all_below any_below sum_below count_below first_below end_below tab tab_from concat
    little_endian tag_of start_of span_of grade_of is_call_code cell_of code_at weights weight_of fragments record_bytes_at part_start part_length position unpacked_cells unpacked_tags unpacked_grades
    bytes_of cell_bytes calls_end_of calls_start_of calls_span_of without_calls cut laid_out record_of row_of packed
    decide is_out_of_frame has_stray_bits has_unknown_call has_open_end gap_in gapped tag_twice precedes is_out_of_order earlier_rules span_rules record_rules gapless_rules table_rules gapless_table_rules size_rules
    choices passing some first least_of first_least marked zeros keep_all keep_lists grid_of with_cells calls_conflict conflict_on conflict_on_kept stretch_covers coverage conflict_count_of conflict_counts_of
    sides_of side_lists same_side lawful error_free first_sides_of snp_keep_marks_of fragment_keep_marks_of
    correction_cost letter_weight side_price majority_letter column_cost cost least_cost_sides_of side_letter corrected_cell corrected differs cell_total changed_total
    side_call haplotype haplotypes linked reached lowest block answer_size answer check_answer snp_answer fragment_answer corrected_grid correction_answer rewritten_code rewritten records_with corrected_table
    work_rules length_rule depth_rules pack_size_rules ungraded_rules fragment_rules unpack_rules pack_rules check_rules conflict_counts_rules lent_stages removal_rules correction_stages correction_rules
    unpack_leaves pack_leaves find_leaves check_leaves conflict_counts_leaves snp_removal_leaves fragment_removal_leaves corrections_leaves
passes (accepts call count buffers) = left call (accepted count) buffers
passes (keeps call outcome) = left call outcome (lent call)
passes (works call buffer) = same_list eqb (work_left call) buffer
passes (finds tag table start count) = let r = find_leaves tag table in eqb r.start start && eqb r.count count
passes (equals x y) = eqb x y
passes (reads base number outcome) = same_verdict (host_read base number) outcome

-- the places of the trials that fail, counted from i
unfoldable pub failing : ℕ → List Trial → List ℕ
unfolding passes
failing i [] = []
failing i (t ∷ ts) = if passes t then failing (suc i) ts else i ∷ failing (suc i) ts
