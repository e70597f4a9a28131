-- Listings of whole tables, and lines that only larger tables have, byte for byte: one computed statement.
-- Assumes nothing.
use Rattle.std.specs.Prelude.{if◌then◌else◌}
use mathlib.Core.Path.{◌≡◌, refl}
use mathlib.Core.Bool.{Bool}
use mathlib.Core.List.{List, [], ◌∷◌, ◌++◌}
use Prim.Native.Nat.{ℕ, suc}
use Prim.Native.Char.{code}
use Prim.Native.String.{String}
use lib.Dec.{eqb}
use Rattle.below.specs.Below.{◌=?◌, ◌<?◌, ◌≤?◌, ◌and◌, ◌or◌, isnt, all_below, any_below, sum_below, count_below, first_below, end_below, max_below, tab, tab_from, concat}
use Rattle.fields.specs.Record.{little_endian, tag_of, start_of, span_of, grade_of, is_call_code, cell_of, code_at}
use Rattle.fields.specs.Grades.{weights, weight_of}
use Rattle.fields.specs.Table.{fragments, record_bytes_at, column_count_of}
use Rattle.fields.specs.Writing.{bytes_of, cell_bytes}
use Rattle.records.specs.Outcome.{refused}
use Rattle.records.specs.Rules.{decide, is_out_of_frame, has_stray_bits, has_unknown_call, has_open_end, gap_in, gapped, tag_twice, precedes, is_out_of_order, earlier_rules, span_rules, record_rules, gapless_rules, table_rules, gapless_table_rules, size_rules, table_verdict}
use Rattle.records.proofs.TrialTools.{same_list, filled, made}
use Rattle.conflicts.specs.Choice.{choices, passing, some, first, least_of, first_least, marked, zeros, keep_all, keep_lists}
use Rattle.conflicts.specs.Grid.{grid_of, with_cells, calls_conflict, conflict_on, conflict_on_kept, stretch_covers, coverage}
use Rattle.conflicts.specs.Sides.{sides_of, side_lists, same_side, lawful, error_free, first_sides_of}
use Rattle.conflicts.specs.Removal.{snp_keep_marks_of, fragment_keep_marks_of}
use Rattle.conflicts.specs.Corrections.{correction_cost, letter_weight, side_price, majority_letter, column_cost, cost, least_cost_sides_of, side_letter, corrected_cell, corrected, differs, cell_total, changed_total}
use Rattle.conflicts.specs.Haplotypes.{side_call, haplotype, haplotypes}
use Rattle.conflicts.specs.Blocks.{linked, reached, lowest, block}
use Rattle.conflicts.specs.Answer.{answer_size, answer, keep_mark_in, haplotype_in, side_in, block_in, check_answer, snp_answer, fragment_answer, corrected_grid, correction_answer, rewritten_code, rewritten, records_with, corrected_table}
use Rattle.conflicts.specs.Services.{work_rules, length_rule, depth_rules, check_rules, lent_stages, removal_rules, correction_stages, correction_rules, check_leaves, snp_removal_leaves, fragment_removal_leaves, corrections_leaves}
use Rattle.below.specs.Text.{ascii}
use Rattle.listing.specs.Listing.{digits_of, decimal, digits, letters, sign_of, block_word, led, joined, field, line, refusal, sizes_line, error_free_line, column_fields, fragment_fields, fields, service_line, blank, check_line, snp_removal_line, fragment_removal_line, correction_line, listed, listing}

-- ---- tables

-- AA-, BAA, -BB
printed : List ℕ
printed = made 10 0 2 0 (0x05 ∷ []) ++ made 11 0 3 0 (0x16 ∷ []) ++ made 12 1 2 0 (0x0A ∷ [])

-- AB-, B-A, -AB
holed : List ℕ
holed = made 1 0 2 0 (0x09 ∷ []) ++ made 2 0 3 0 (0x12 ∷ []) ++ made 3 1 2 0 (0x09 ∷ [])

-- ---- trials

-- what is listed, and what is to be printed
pub data Trial : Type 0 where
  prints : List ℕ → String → Trial

passes : Trial → Bool
passes (prints found wanted) = same_list eqb found (ascii wanted)

-- the places of the trials that fail, counted from i
pub failing : ℕ → List Trial → List ℕ
failing i [] = []
failing i (t ∷ ts) = if passes t then failing (suc i) ts else i ∷ failing (suc i) ts

pub trials : List Trial
trials =
    prints (listing printed) "fragments 3 snps 3\nerror-free no\nS 1 101 A#B B#A 121 0,0,0\nF 1 111 AA- BAA 120 0,0,-\nC 1 111 AAA -BB 112 0,0,0\n"
    ∷ prints (listing []) "fragments 0 snps 0\nerror-free yes\nS 0 . . . . .\nF 0 . . . . .\nC 0 . . . . .\n"
    ∷ prints (listing (made 1 0 0 0 [])) "fragments 1 snps 0\nerror-free yes\nS 0 . . . 1 0\nF 0 . . . 1 0\nC 0 . . . 1 0\n"
    ∷ prints (listing holed) "fragments 3 snps 3\nerror-free no\nS refused 8 at 1\nF refused 8 at 1\nC 1 111 ABA -AB 112 0,0,0\n"
    ∷ prints (listing (printed ++ printed)) "refused 9 at 3\n"
    ∷ prints (listing (made 1 1 1 0 (1 ∷ []) ++ made 2 0 1 0 (1 ∷ []))) "refused 13 at 1\n"
    ∷ prints (listing (1 ∷ [])) "refused 1 at 0\n"
    ∷ prints (service_line (code "C") 9 1 (refused 12 0) []) "C refused 12 at 0\n"
    ∷ prints (sizes_line 128 105) "fragments 128 snps 105\n"
    ∷ []

pub all_pass : failing 0 trials ≡ []
unfolding printed holed passes failing trials same_list filled made
    ◌=?◌ ◌<?◌ ◌≤?◌ ◌and◌ ◌or◌ isnt all_below any_below sum_below count_below first_below end_below max_below tab tab_from concat
    little_endian tag_of start_of span_of grade_of is_call_code cell_of code_at weights weight_of fragments record_bytes_at column_count_of bytes_of cell_bytes
    decide is_out_of_frame has_stray_bits has_unknown_call has_open_end gap_in gapped tag_twice precedes is_out_of_order earlier_rules span_rules record_rules gapless_rules table_rules gapless_table_rules size_rules table_verdict
    choices passing some first least_of first_least marked zeros keep_all keep_lists grid_of with_cells calls_conflict conflict_on conflict_on_kept stretch_covers coverage
    sides_of side_lists same_side lawful error_free first_sides_of snp_keep_marks_of fragment_keep_marks_of
    correction_cost letter_weight side_price majority_letter column_cost cost least_cost_sides_of side_letter corrected_cell corrected differs cell_total changed_total
    side_call haplotype haplotypes linked reached lowest block answer_size answer keep_mark_in haplotype_in side_in block_in check_answer snp_answer fragment_answer corrected_grid correction_answer rewritten_code rewritten records_with corrected_table
    work_rules length_rule depth_rules check_rules lent_stages removal_rules correction_stages correction_rules check_leaves snp_removal_leaves fragment_removal_leaves corrections_leaves
    digits_of decimal digits letters sign_of block_word led joined field line ascii refusal sizes_line error_free_line column_fields fragment_fields fields service_line blank check_line snp_removal_line fragment_removal_line correction_line listed listing
all_pass = refl
