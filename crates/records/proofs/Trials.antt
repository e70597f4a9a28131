-- Paper 01's trials that concern records, those marked P first; then every rule alone, and each two rules that one table can break together: computed statements.
-- A record is written as its tag, start, span and byte 7, and its cells in letters: - hole, A, B, # the code 3.
-- Assumes nothing.
use Rattle.std.specs.Prelude.{if◌then◌else◌}
use mathlib.Core.Path.{◌≡◌, refl}
use mathlib.Core.Bool.{Bool}
use mathlib.Core.List.{List, [], ◌∷◌, ◌++◌}
use Prim.Native.Nat.{ℕ, suc}
use Prim.Native.String.{String}
use lib.Dec.{eqb}
use lib.ListN.{replicate}
use Rattle.below.specs.Below.{◌=?◌, ◌<?◌, ◌≤?◌, ◌and◌, ◌or◌, isnt, any_below, sum_below, first_below, end_below, max_below, tab, tab_from, concat}
use Rattle.fields.specs.Record.{little_endian, tag_of, start_of, span_of, grade_of, is_call_code, cell_of, code_at}
use Rattle.fields.specs.Table.{fragments, record_bytes_at, position, column_count_of, unpacked_cells, unpacked_tags, unpacked_grades}
use Rattle.fields.specs.Writing.{bytes_of, cell_bytes, calls_end_of, calls_start_of, calls_span_of, cut, laid_out, record_of, row_of, packed}
use Rattle.records.specs.Outcome.{Verdict, accepted, refused}
use Rattle.records.specs.Rules.{decide, is_out_of_frame, has_stray_bits, has_unknown_call, has_open_end, gap_in, gapped, tag_twice, precedes, is_out_of_order, earlier_rules, span_rules, record_rules, gapless_rules, table_rules, gapless_table_rules, size_rules, table_verdict}
use Rattle.records.proofs.TrialTools.{same_verdict, same_list, filled, made}
use Rattle.records.proofs.TrialText.{cells, byte_of}

-- ---- records in letters

-- a record whose first byte of cells has these letters, and whose other cells are holes: tag, start, span, byte 7
frag : ℕ → ℕ → ℕ → ℕ → String → List ℕ
unfolding made filled cells byte_of
frag tag start span byte7 text = made tag start span byte7 (byte_of (cells text) ∷ [])

-- ---- trials

-- a table's verdict for a column count, that and the one of its records by 8 too, or a list of numbers; and what it must be
pub data Trial : Type 0 where
  decides : ℕ → List ℕ → Verdict → Trial
  both : ℕ → List ℕ → Verdict → Verdict → Trial
  lists : List ℕ → List ℕ → Trial

-- a trial passes; to unfold this unfolds all that a trial computes with
passes : Trial → Bool
unfolding cells frag made filled same_verdict same_list
    ◌=?◌ ◌<?◌ ◌≤?◌ ◌and◌ ◌or◌ isnt any_below sum_below first_below end_below max_below tab tab_from concat
    little_endian tag_of start_of span_of grade_of is_call_code cell_of code_at fragments record_bytes_at position column_count_of unpacked_cells unpacked_tags unpacked_grades
    bytes_of cell_bytes calls_end_of calls_start_of calls_span_of cut laid_out record_of row_of packed
    decide is_out_of_frame has_stray_bits has_unknown_call has_open_end gap_in gapped tag_twice precedes is_out_of_order earlier_rules span_rules record_rules gapless_rules table_rules gapless_table_rules size_rules table_verdict
passes (decides n table v) = same_verdict (table_verdict n table) v
passes (both n table v w) = same_verdict (table_verdict n table) v and same_verdict (decide (gapless_table_rules n table) (accepted (fragments table))) w
passes (lists given expected) = same_list eqb given expected

-- the places of the trials that fail, counted from i
pub failing : ℕ → List Trial → List ℕ
unfolding passes
failing i [] = []
failing i (t ∷ ts) = if passes t then failing (suc i) ts else i ∷ failing (suc i) ts

-- ---- paper 01's trials

-- "AA-, BAA, -BB", by the printed bytes
printed : List ℕ
printed =
    filled (0x0A ∷ 0x00 ∷ 0x00 ∷ 0x00 ∷ 0x00 ∷ 0x00 ∷ 0x02 ∷ 0x00 ∷ 0x05 ∷ [])
    ++ filled (0x0B ∷ 0x00 ∷ 0x00 ∷ 0x00 ∷ 0x00 ∷ 0x00 ∷ 0x03 ∷ 0x00 ∷ 0x16 ∷ [])
    ++ filled (0x0C ∷ 0x00 ∷ 0x00 ∷ 0x00 ∷ 0x01 ∷ 0x00 ∷ 0x02 ∷ 0x00 ∷ 0x0A ∷ [])

-- what the entries marked P say of a table by itself, each under its line
pub p_trials : List Trial
unfolding printed
p_trials =
    -- P "the table above, for S, F and C"
    decides 3 printed (accepted 3)
    -- P "no records, n = 0: error-free, all counts 0"
    ∷ decides 0 [] (accepted 0)
    -- P "AB-, -AB, B-A: refusal 8", since T-01 from S and F alone, and since T-02 "tried as AB-, B-A, -AB, with 8 at 1"
    ∷ both 3 (frag 1 0 2 0 "AB" ++ frag 2 0 3 0 "B-A" ++ frag 3 1 2 0 "AB") (accepted 3) (refused 8 1)
    -- … and in the old order out of order, where 8 comes first
    ∷ both 3 (frag 1 0 2 0 "AB" ++ frag 2 1 2 0 "AB" ++ frag 3 0 3 0 "B-A") (refused 13 2) (refused 8 2)
    -- P "start + span = n accepted; n + 1 is refusal 4"
    ∷ decides 3 (frag 1 1 2 0 "AA") (accepted 1)
    ∷ decides 2 (frag 1 1 2 0 "AA") (refused 4 0)
    ∷ []

-- paper 01's trials marked P, so far as they concern records
pub p-pass : failing 0 p_trials ≡ []
unfolding failing p_trials
p-pass = refl

-- A at column 0, with tag 256
high : List ℕ
high = filled (0x00 ∷ 0x01 ∷ 0x00 ∷ 0x00 ∷ 0x00 ∷ 0x00 ∷ 0x01 ∷ 0x00 ∷ 0x01 ∷ [])

-- T-02: "records rise by start, and at one start by tag"
pub rising_trials : List Trial
unfolding high
rising_trials =
    -- equal start and rising tags pass, also where the low byte falls; equal start and falling tags are 13, also where it rises
    both 3 (frag 1 0 2 0 "AA" ++ frag 2 0 2 0 "AB" ++ high) (accepted 3) (accepted 3)
    ∷ both 3 (frag 2 0 2 0 "AA" ++ frag 1 0 2 0 "AB") (refused 13 1) (refused 13 1)
    ∷ both 3 (high ++ frag 1 0 2 0 "AB") (refused 13 1) (refused 13 1)
    -- rising start passes with any tag; falling start is 13, also where it does not fall under that of record 0
    ∷ both 3 (frag 9 0 2 0 "AA" ++ frag 8 1 2 0 "AB" ++ frag 7 2 1 0 "B") (accepted 3) (accepted 3)
    ∷ both 3 (frag 1 1 2 0 "AA" ++ frag 2 0 2 0 "AB") (refused 13 1) (refused 13 1)
    ∷ both 3 (frag 1 0 2 0 "AA" ++ frag 2 2 1 0 "A" ++ frag 3 1 2 0 "AB") (refused 13 2) (refused 13 2)
    -- "fragments without calls, whose start is 0, stand by tag among the others there"
    ∷ both 3 (frag 1 0 2 0 "AA" ++ made 2 0 0 0 [] ++ frag 3 0 2 0 "AB" ++ frag 4 1 2 0 "AB") (accepted 4) (accepted 4)
    ∷ both 3 (frag 2 0 2 0 "AA" ++ made 1 0 0 0 []) (refused 13 1) (refused 13 1)
    ∷ both 3 (frag 1 1 2 0 "AA" ++ made 2 0 0 0 []) (refused 13 1) (refused 13 1)
    -- 9 before 13, at the same start and at a lower one
    ∷ both 3 (frag 1 0 2 0 "AA" ++ frag 1 0 2 0 "AB") (refused 9 1) (refused 9 1)
    ∷ both 3 (frag 2 1 2 0 "AA" ++ frag 2 0 2 0 "AB") (refused 9 1) (refused 9 1)
    ∷ []

pub rising-pass : failing 0 rising_trials ≡ []
unfolding failing rising_trials
rising-pass = refl

-- ---- other trials, by topic

-- a record that keeps every rule, with tag 1
good : List ℕ
good = frag 1 0 2 0 "AA"

-- paper 01, not marked P: "span 96 passes, 97 is 4"
pub span_trials : List Trial
span_trials =
    decides 96 (made 1 0 96 0 (replicate 24 0x55)) (accepted 1)
    ∷ decides 128 (made 1 0 97 0 (replicate 24 0x55)) (refused 4 0)
    ∷ []

-- each rule alone, in each of its cases
pub alone_trials : List Trial
unfolding good
alone_trials =
    decides 128 good (accepted 1)
    ∷ decides 129 [] (refused 3 0)
    ∷ decides 3 (good ++ 0 ∷ []) (refused 1 0)
    ∷ decides 3 (replicate 4128 0) (refused 2 0)
    ∷ decides 3 (made 1 0 0 0 []) (accepted 1)
    ∷ decides 3 (made 1 1 0 0 []) (refused 4 0)
    ∷ decides 3 (filled (1 ∷ 0 ∷ 0 ∷ 0 ∷ 0 ∷ 1 ∷ 2 ∷ 0 ∷ 5 ∷ [])) (refused 4 0)
    ∷ decides 3 (frag 1 0 2 15 "AA") (accepted 1)
    ∷ decides 3 (frag 1 0 2 16 "AA") (refused 5 0)
    ∷ decides 3 (frag 1 0 2 255 "AA") (refused 5 0)
    ∷ decides 3 (made 1 0 0 15 []) (accepted 1)
    ∷ decides 3 (made 1 0 0 16 []) (refused 5 0)
    ∷ decides 3 (frag 1 0 2 0 "AAA") (refused 5 0)
    ∷ decides 3 (frag 1 0 2 15 "AAA") (refused 5 0)
    ∷ decides 3 (made 1 0 2 0 (0x05 ∷ replicate 22 0 ++ 0x40 ∷ [])) (refused 5 0)
    ∷ decides 3 (frag 1 0 3 0 "A#A") (refused 6 0)
    ∷ decides 3 (frag 1 0 3 0 "-AA") (refused 7 0)
    ∷ decides 3 (frag 1 0 3 0 "AA-") (refused 7 0)
    ∷ both 3 (frag 1 0 3 0 "B-A") (accepted 1) (refused 8 0)
    ∷ both 4 (frag 1 0 4 0 "A--A") (accepted 1) (refused 8 0)
    ∷ decides 3 (good ++ frag 2 0 2 0 "AA" ++ good) (refused 9 2)
    ∷ []

-- two rules together
pub order_trials : List Trial
unfolding good
order_trials =
    -- the sizes by 3, 1, 2
    decides 129 (good ++ 0 ∷ []) (refused 3 0)
    ∷ decides 129 (replicate 4128 0) (refused 3 0)
    ∷ decides 3 (replicate 4129 0) (refused 1 0)
    ∷ decides 1 (good ++ 0 ∷ []) (refused 1 0)
    -- in one record: 4 with 5, 6, 7, 8, 9
    ∷ decides 3 (made 1 1 0 16 []) (refused 4 0)
    ∷ decides 2 (frag 1 0 3 0 "A#A") (refused 4 0)
    ∷ decides 2 (frag 1 0 3 0 "-AA") (refused 4 0)
    ∷ both 2 (frag 1 0 3 0 "B-A") (refused 4 0) (refused 4 0)
    ∷ decides 2 (good ++ frag 1 1 2 0 "AA") (refused 4 1)
    -- 5 with 6, 7, 8, 9
    ∷ decides 3 (frag 1 0 3 16 "A#A") (refused 5 0)
    ∷ decides 3 (frag 1 0 3 255 "-AA") (refused 5 0)
    ∷ both 3 (frag 1 0 3 16 "B-A") (refused 5 0) (refused 5 0)
    ∷ decides 3 (good ++ frag 1 0 2 255 "AA") (refused 5 1)
    -- 6 with 7, 8, 9
    ∷ decides 3 (frag 1 0 3 0 "-#-") (refused 6 0)
    ∷ both 4 (frag 1 0 4 0 "A-#A") (refused 6 0) (refused 6 0)
    ∷ decides 3 (good ++ frag 1 0 3 0 "A#A") (refused 6 1)
    -- 7 with 8, 9; 8 with 9
    ∷ both 4 (frag 1 0 4 0 "-A-A") (refused 7 0) (refused 7 0)
    ∷ decides 3 (good ++ frag 1 0 3 0 "-AA") (refused 7 1)
    ∷ both 3 (good ++ frag 1 0 3 0 "B-A") (refused 9 1) (refused 8 1)
    -- 4 to 8 with 13
    ∷ decides 2 (frag 2 0 2 0 "AA" ++ frag 1 0 3 0 "AAA") (refused 4 1)
    ∷ decides 3 (frag 2 0 2 0 "AA" ++ frag 1 0 2 16 "AA") (refused 5 1)
    ∷ decides 3 (frag 2 0 2 0 "AA" ++ frag 1 0 3 0 "A#A") (refused 6 1)
    ∷ decides 3 (frag 2 0 2 0 "AA" ++ frag 1 0 3 0 "-AA") (refused 7 1)
    ∷ both 3 (frag 2 0 2 0 "AA" ++ frag 1 0 3 0 "B-A") (refused 13 1) (refused 8 1)
    -- an earlier record's later rule comes first
    ∷ decides 3 (frag 2 0 2 0 "AA" ++ good ++ made 3 1 0 0 []) (refused 13 1)
    ∷ both 3 (frag 1 0 3 0 "B-A" ++ made 2 1 0 0 []) (refused 4 1) (refused 8 0)
    ∷ both 3 (good ++ good ++ frag 2 0 3 0 "B-A") (refused 9 1) (refused 9 1)
    ∷ []

-- the printed table with grades 15, 0 and 9
graded : List ℕ
graded = frag 10 0 2 15 "AA" ++ frag 11 0 3 0 "BAA" ++ frag 12 1 2 9 "BB"

-- cells, tags and grades out and in again, the columns needed, and a tag's first position
pub cell_trials : List Trial
unfolding printed graded good
cell_trials =
    lists (unpacked_cells 3 printed) (cells "AA-, BAA, -BB")
    ∷ lists (unpacked_tags printed) (10 ∷ 11 ∷ 12 ∷ [])
    ∷ lists (unpacked_grades printed) (0 ∷ 0 ∷ 0 ∷ [])
    ∷ lists (unpacked_grades graded) (15 ∷ 0 ∷ 9 ∷ [])
    ∷ lists (packed 3 (cells "AA-, BAA, -BB") (10 ∷ 11 ∷ 12 ∷ []) (0 ∷ 0 ∷ 0 ∷ [])) printed
    ∷ lists (packed 3 (cells "AA-, BAA, -BB") (10 ∷ 11 ∷ 12 ∷ []) (15 ∷ 0 ∷ 9 ∷ [])) graded
    ∷ lists (packed 3 (cells "---") (7 ∷ []) (3 ∷ [])) (made 7 0 0 3 [])
    ∷ lists (column_count_of printed ∷ position 11 printed ∷ position 13 printed ∷ position 1 (good ++ good) ∷ []) (3 ∷ 1 ∷ 3 ∷ 0 ∷ [])
    ∷ []

-- all trials but those marked P
pub other_trials : List Trial
unfolding span_trials alone_trials order_trials cell_trials
other_trials = span_trials ++ alone_trials ++ order_trials ++ cell_trials

-- all of these
pub others-pass : failing 0 other_trials ≡ []
unfolding failing other_trials
others-pass = refl

-- all trials: paper 01's marked P, T-02's, and the others
pub all_pass : (failing 0 p_trials ≡ []) × (failing 0 rising_trials ≡ []) × (failing 0 other_trials ≡ [])
all_pass = (p-pass, rising-pass, others-pass)
