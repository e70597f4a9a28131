-- Paper 01's trials marked P, with the blocks of paper 02's T-04, the mates of its T-01 and the order of its T-02, and then others that tell right programs from wrong ones, from the bytes given to everything that a call leaves: computed statements.
-- An answer is written as the listing prints it after the service's letter: count, keep marks, haplotype 1, haplotype 2, sides, blocks (paper 01, "The listing program").
-- Assumes nothing.
use mathlib.Core.Path.{◌≡◌, refl}
use mathlib.Core.List.{List, [], ◌∷◌, ◌++◌}
use Prim.Native.Nat.{ℕ}
use lib.ListN.{replicate}
use Rattle.records.specs.Outcome.{accepted, refused}
use Rattle.records.proofs.TrialTools.{filled}
use Rattle.conflicts.specs.Host.{host_code, host_outcome}
use Rattle.records.proofs.TrialText.{marks, cells, frag, table_from, with_grades}
use Rattle.conflicts.proofs.TrialCalls.{unpack, pack, check, counts, S, F, C, leaves, nines, work9, unpack_on, pack_on, check_on, counts_on, s_on, f_on, c_on, Trial, accepts, keeps, works, finds, equals, reads, unpacks, answers, corrects, all_keep, free_on, count_on, coverage_on, ruled_on, cost_of, failing}

-- ---- the tables of paper 01's trials

-- "AA-, BAA, -BB", by the printed bytes
printed : List ℕ
printed =
    filled (0x0A ∷ 0x00 ∷ 0x00 ∷ 0x00 ∷ 0x00 ∷ 0x00 ∷ 0x02 ∷ 0x00 ∷ 0x05 ∷ [])
    ++ filled (0x0B ∷ 0x00 ∷ 0x00 ∷ 0x00 ∷ 0x00 ∷ 0x00 ∷ 0x03 ∷ 0x00 ∷ 0x16 ∷ [])
    ++ filled (0x0C ∷ 0x00 ∷ 0x00 ∷ 0x00 ∷ 0x01 ∷ 0x00 ∷ 0x02 ∷ 0x00 ∷ 0x0A ∷ [])

-- "A and B on one column"
pair : List ℕ
pair = table_from 1 "A, B"

-- "AA and AA"
same : List ℕ
same = table_from 1 "AA, AA"

-- "AA, AB, BA"
three : List ℕ
three = table_from 1 "AA, AB, BA"

-- "AA, AB, BA, BB"
four : List ℕ
four = table_from 1 "AA, AB, BA, BB"

-- "AB-, B-A, -AB", by its bytes: the second record has a hole between two calls
holed : List ℕ
holed = frag 1 0 2 0x09 ++ frag 2 0 3 0x12 ++ frag 3 1 2 0x09

-- "AB-, -AB, B-A", as paper 01 has it: the last record comes before its predecessor
fallen : List ℕ
fallen = frag 1 0 2 0x09 ++ frag 2 1 2 0x09 ++ frag 3 0 3 0x12

-- no one calls its second column
lone : List ℕ
lone = table_from 1 "A-"

-- start 1 and span 2
edge : List ℕ
edge = table_from 1 "-AA"

-- ---- paper 01's trials

-- the entries marked P, each under its line; where a line names no service, for every service that it concerns
pub p_trials : List Trial
unfolding printed pair same three four holed fallen lone edge
p_trials =
    -- P "the table above, for S, F and C"
    answers (s_on 3 printed) "1 101 A#B B#A 121 0,0,0"
    ∷ answers (f_on 3 printed) "1 111 AA- BAA 120 0,0,-"
    ∷ corrects (c_on 3 printed) "1 111 AAA -BB 112 0,0,0" (table_from 10 "AA-, AAA, -BB")
    -- P "no records, n = 0: error-free, all counts 0"
    ∷ answers (check_on 0 []) "0 . . . . ."
    ∷ answers (s_on 0 []) "0 . . . . ."
    ∷ answers (f_on 0 []) "0 . . . . ."
    ∷ corrects (c_on 0 []) "0 . . . . ." []
    -- P "A and B on one column: yes, sides 12, haplotypes A and B"
    ∷ answers (check_on 1 pair) "0 1 A B 12 0,0"
    ∷ answers (s_on 1 pair) "0 1 A B 12 0,0"
    ∷ answers (f_on 1 pair) "0 1 A B 12 0,0"
    ∷ corrects (c_on 1 pair) "0 1 A B 12 0,0" pair
    -- P "AA and AA: yes, sides 11, haplotypes AA and --"; T-04: "AA and AA become two blocks"
    ∷ answers (check_on 2 same) "0 11 AA -- 11 0,1"
    ∷ answers (s_on 2 same) "0 11 AA -- 11 0,1"
    ∷ answers (f_on 2 same) "0 11 AA -- 11 0,1"
    ∷ corrects (c_on 2 same) "0 11 AA -- 11 0,1" same
    -- P "AA, AB, BA: no; S 1, keeps column 0, sides 112; C 1"
    ∷ keeps (check_on 2 three) (accepted 1)
    ∷ answers (s_on 2 three) "1 10 A# B# 112 0,0,0"
    ∷ corrects (c_on 2 three) "1 11 AA BA 112 0,0,0" (table_from 1 "AA, AA, BA")
    -- P "AA, AB, BA, BB: S 1; F 2, sides 1200; C 2, sides 1112, corrected to AA, AA, AA, BB"
    ∷ answers (s_on 2 four) "1 10 A# B# 1122 0,0,0,0"
    ∷ answers (f_on 2 four) "2 11 AA AB 1200 0,0,-,-"
    ∷ corrects (c_on 2 four) "2 11 AA BB 1112 0,0,0,0" (table_from 1 "AA, AA, AA, BB")
    -- P "AB-, -AB, B-A: refusal 8", from S and F; T-01: "a no from check and an answer from C"; T-02: "tried as AB-, B-A, -AB, with 8 at 1"
    ∷ unpacks (unpack_on 3 holed) 3 (cells "AB-, B-A, -AB") (1 ∷ 2 ∷ 3 ∷ [])
    ∷ accepts (pack_on 3 (cells "AB-, B-A, -AB") (1 ∷ 2 ∷ 3 ∷ [])) 3 (holed ∷ [])
    ∷ keeps (check_on 3 holed) (accepted 1)
    ∷ accepts (counts_on 3 holed) 3 ((0 ∷ 1 ∷ 1 ∷ 1 ∷ 0 ∷ 1 ∷ 1 ∷ 1 ∷ 0 ∷ []) ∷ [])
    ∷ keeps (s_on 3 holed) (refused 8 1)
    ∷ keeps (f_on 3 holed) (refused 8 1)
    ∷ corrects (c_on 3 holed) "1 111 ABA -AB 112 0,0,0" (table_from 1 "AB-, A-A, -AB")
    -- … and in the old order 13 at 2, but 8 at 2, which comes first, from S and F
    ∷ keeps (unpack_on 3 fallen) (refused 13 2)
    ∷ keeps (pack_on 3 (cells "AB-, -AB, B-A") (1 ∷ 2 ∷ 3 ∷ [])) (refused 13 2)
    ∷ keeps (check_on 3 fallen) (refused 13 2)
    ∷ keeps (counts_on 3 fallen) (refused 13 2)
    ∷ keeps (s_on 3 fallen) (refused 8 2)
    ∷ keeps (f_on 3 fallen) (refused 8 2)
    ∷ keeps (c_on 3 fallen) (refused 13 2)
    -- P "a column no one calls is kept, a hole in both haplotypes"
    ∷ answers (check_on 2 lone) "0 11 A- -- 1 0"
    ∷ answers (s_on 2 lone) "0 11 A- -- 1 0"
    ∷ answers (f_on 2 lone) "0 11 A- -- 1 0"
    ∷ corrects (c_on 2 lone) "0 11 A- -- 1 0" lone
    -- P "start + span = n accepted; n + 1 is refusal 4"
    ∷ answers (check_on 3 edge) "0 111 -AA --- 1 0"
    ∷ answers (s_on 3 edge) "0 111 -AA --- 1 0"
    ∷ answers (f_on 3 edge) "0 111 -AA --- 1 0"
    ∷ corrects (c_on 3 edge) "0 111 -AA --- 1 0" edge
    ∷ keeps (check_on 2 edge) (refused 4 0)
    ∷ keeps (s_on 2 edge) (refused 4 0)
    ∷ keeps (f_on 2 edge) (refused 4 0)
    ∷ keeps (c_on 2 edge) (refused 4 0)
    ∷ []

-- paper 01's trials marked P, all of them
pub p-pass : failing 0 p_trials ≡ []
unfolding failing p_trials
p-pass = refl

-- ---- more tables

-- its last column has one letter
plain : List ℕ
plain = table_from 1 "AAA, ABA, BAA"

-- its first fragment has no calls
callless : List ℕ
callless = table_from 1 "--, AA, AB, BA"

-- two blocks
apart : List ℕ
apart = table_from 1 "A-, -A"

-- a chain whose link comes last
bridged : List ℕ
bridged = table_from 1 "AA-, -AA, -BB"

-- shared calls join them, and conflicts do not
agreeing : List ℕ
agreeing = table_from 1 "A-, AA, -A"

-- its last fragment conflicts only on a column that S removes, and agrees with the third
outside : List ℕ
outside = table_from 1 "AA-, AB-, BAA, -AA"

-- a short fragment inside a long one
inside : List ℕ
inside = table_from 1 "AAAA, -B--, --AB"

-- its last fragment calls only a column that S removes
dangling : List ℕ
dangling = table_from 1 "AA, AB, BA, -A"

-- its last column is all A
unforced : List ℕ
unforced = table_from 1 "AA, AA, BA"

-- the rarer letter of a side is A
rarer_a : List ℕ
rarer_a = table_from 1 "AA, AB, BA, B-, -B"

-- nine calls in column 1
deep : List ℕ
deep = table_from 0 "-A, -A, -A, -A, -A, -A, -A, -A, -A"

-- mates that agree, and whose far mates conflict
mates : List ℕ
mates = table_from 1 "A-A, A-B"

-- its second column lies between mates, and no one calls it
between : List ℕ
between = table_from 1 "A-A, B-B"

-- eight stretches over column 1, which four fragments call
covered : List ℕ
covered = table_from 0 "A-A-, A-A-, A-A-, A-A-, -B-A, -B-A, -B-A, -B-A"

-- two calls at the ends of 96 columns, as a row and as a record
wide_row : List ℕ
wide_row = 1 ∷ replicate 94 0 ++ 2 ∷ []

wide : List ℕ
wide = filled (1 ∷ 0 ∷ 0 ∷ 0 ∷ 0 ∷ 0 ∷ 96 ∷ 0 ∷ 0x01 ∷ replicate 22 0 ++ 0x80 ∷ [])

-- A at column 0, with tag 256
high : List ℕ
high = filled (0 ∷ 1 ∷ 0 ∷ 0 ∷ 0 ∷ 0 ∷ 1 ∷ 0 ∷ 0x01 ∷ [])

-- a row of 97 cells: A first, this code next, and A last
far : ℕ → List ℕ
far code = 1 ∷ code ∷ replicate 94 0 ++ 1 ∷ []

-- ---- other trials, by topic

-- the services that the lines above leave out
pub above_trials : List Trial
unfolding printed three four
above_trials =
    keeps (check_on 3 printed) (accepted 1)
    ∷ answers (f_on 2 three) "1 11 AA AB 120 0,0,-"
    ∷ keeps (check_on 2 four) (accepted 1)
    ∷ []

-- answers
pub answer_trials : List Trial
unfolding plain three callless inside unforced rarer_a deep
answer_trials =
    -- a column that no one calls is kept also where another is removed; so is a column with one letter
    answers (s_on 3 plain) "1 101 A#A B#A 112 0,0,0"
    ∷ answers (s_on 3 three) "1 101 A#- B#- 112 0,0,0"
    ∷ answers (f_on 3 three) "1 111 AA- AB- 120 0,0,-"
    ∷ corrects (c_on 3 three) "1 111 AA- BA- 112 0,0,0" (table_from 1 "AA-, AA-, BA-")
    -- a fragment without calls is kept by F, on side 1 by C, and a block by itself
    ∷ answers (s_on 2 callless) "1 10 A# B# 1112 0,1,1,1"
    ∷ answers (f_on 2 callless) "1 11 AA AB 1120 0,1,1,-"
    ∷ corrects (c_on 2 callless) "1 11 AA BA 1112 0,1,1,1" (table_from 1 "--, AA, AA, BA")
    -- a short fragment inside a long one
    ∷ answers (check_on 4 inside) "0 1111 AAAA -BAB 122 0,0,0"
    ∷ answers (f_on 4 inside) "0 1111 AAAA -BAB 122 0,0,0"
    -- a column may be all A: opposite letters are not forced on the haplotypes; the rarer letter can be A
    ∷ answers (check_on 2 unforced) "0 11 AA BA 112 0,0,0"
    ∷ corrects (c_on 2 unforced) "0 11 AA BA 112 0,0,0" unforced
    ∷ corrects (c_on 2 rarer_a) "1 11 AB BA 11221 0,0,0,0,0" (table_from 1 "AB, AB, BA, B-, -B")
    ∷ answers (f_on 2 rarer_a) "1 11 AB BA 01221 -,1,1,1,1"
    -- nine calls in a column are no matter to check
    ∷ answers (check_on 2 deep) "0 11 -A -- 111111111 0,1,2,3,4,5,6,7,8"
    ∷ []

-- blocks that phase (paper 02, T-04); the printed table's, and AA and AA's, are above
pub block_trials : List Trial
unfolding four apart bridged agreeing dangling outside
block_trials =
    -- two that share no column; a chain whose link comes last; agreements are no links
    answers (check_on 2 apart) "0 11 AA -- 11 0,1"
    ∷ corrects (c_on 2 apart) "0 11 AA -- 11 0,1" apart
    ∷ answers (check_on 3 bridged) "0 111 AAA -BB 112 0,0,0"
    ∷ answers (check_on 2 agreeing) "0 11 AA -- 111 0,1,2"
    -- a fragment that calls only a column that S removes, and one whose only conflicts lie on it, is a block by itself
    ∷ answers (s_on 2 dangling) "1 10 A# B# 1121 0,0,0,3"
    ∷ answers (s_on 3 outside) "1 101 A#A B#A 1121 0,0,0,3"
    -- F keeps the column, and with it the conflict
    ∷ answers (f_on 2 dangling) "1 11 AA AB 1201 0,0,-,0"
    ∷ answers (f_on 3 outside) "1 111 AAA AB- 1201 0,0,-,0"
    -- C corrects the one call on which the last fragment conflicted with the second: they are no neighbours
    ∷ corrects (c_on 2 dangling) "1 11 AA BA 1121 0,0,0,3" (table_from 1 "AA, AA, BA, -A")
    ∷ corrects (c_on 3 outside) "1 111 AAA BAA 1121 0,0,0,3" (table_from 1 "AA-, AA-, BAA, -AA")
    -- AA, AB, BA, BB is one block of C's, and other sides of its cost put the second and the third otherwise
    ∷ equals (cost_of 2 four (marks "1112")) 2
    ∷ equals (cost_of 2 four (marks "1122")) 2
    ∷ []

-- "document 000 shows three fragments that defeat this": judged by pairs of columns they are error-free, and they are not
pub pair_trials : List Trial
unfolding holed
pair_trials =
    equals (free_on 3 holed (marks "110")) 1
    ∷ equals (free_on 3 holed (marks "101")) 1
    ∷ equals (free_on 3 holed (marks "011")) 1
    ∷ equals (free_on 3 holed (marks "111")) 0
    ∷ []

-- mate pairs (paper 02, T-01); the gapped triangle's are above
pub mate_trials : List Trial
unfolding mates between covered wide_row wide
mate_trials =
    -- the far mate counts: for sides, for corrections and for conflicts
    answers (check_on 3 mates) "0 111 A-A A-B 12 0,0"
    ∷ corrects (c_on 3 mates) "0 111 A-A A-B 12 0,0" mates
    ∷ accepts (counts_on 3 mates) 2 ((0 ∷ 1 ∷ 1 ∷ 0 ∷ []) ∷ [])
    ∷ corrects (c_on 3 (table_from 1 "A-A, A-B, B-B")) "1 111 A-A B-B 112 0,0,0" (table_from 1 "A-A, A-A, B-B")
    -- the hole at a column that no one calls
    ∷ answers (check_on 3 between) "0 111 A-A B-B 12 0,0"
    ∷ corrects (c_on 3 between) "0 111 A-A B-B 12 0,0" between
    -- a stretch of 96 columns with two calls
    ∷ unpacks (unpack_on 96 wide) 1 wide_row (1 ∷ [])
    ∷ accepts (pack_on 96 wide_row (1 ∷ [])) 1 (wide ∷ [])
    ∷ accepts (c_on 96 wide) 0 ((replicate 96 1 ++ (wide_row ++ (replicate 96 0 ++ (1 ∷ 0 ∷ [])))) ∷ wide ∷ [])
    -- 12 counts stretches: eight over column 1, which four fragments call, break no rule of C, and nine do
    ∷ equals (coverage_on 4 covered 1) 8
    ∷ equals (host_outcome (ruled_on 4 covered)) 0
    ∷ keeps (c_on 4 (covered ++ frag 8 1 3 0x11)) (refused 12 1)
    ∷ []

-- records in order (paper 02, T-02), for every service that tests records, and for pack by the starts that it would write
pub rising_trials : List Trial
unfolding all_keep high far
rising_trials =
    -- equal start and rising tags pass, also where the low byte falls; rising start and falling tags pass
    answers (f_on 1 (table_from 1 "A, A" ++ high)) "0 1 A - 111 0,1,2"
    ∷ accepts (pack_on 1 (cells "A, A, A") (1 ∷ 2 ∷ 256 ∷ [])) 3 ((table_from 1 "A, A" ++ high) ∷ [])
    ∷ answers (f_on 2 (frag 2 0 1 1 ++ frag 1 1 1 1)) "0 11 AA -- 11 0,1"
    ∷ accepts (pack_on 2 (cells "A-, -A") (2 ∷ 1 ∷ [])) 2 ((frag 2 0 1 1 ++ frag 1 1 1 1) ∷ [])
    -- equal start and falling tags are 13, also where the low byte rises
    ∷ keeps (pack_on 1 (cells "A, A") (2 ∷ 1 ∷ [])) (refused 13 1)
    ∷ keeps (pack_on 1 (cells "A, A") (256 ∷ 1 ∷ [])) (refused 13 1)
    -- falling start is 13, also where it is not under that of record 0
    ∷ keeps (pack_on 2 (cells "-A, A-") (1 ∷ 2 ∷ [])) (refused 13 1)
    ∷ keeps (pack_on 3 (cells "A--, --A, -A-") (1 ∷ 2 ∷ 3 ∷ [])) (refused 13 2)
    -- 9 before 13, and 6 and 4 before both
    ∷ keeps (pack_on 2 (cells "-A, A-") (2 ∷ 2 ∷ [])) (refused 9 1)
    ∷ keeps (pack_on 1 (1 ∷ 3 ∷ []) (2 ∷ 1 ∷ [])) (refused 6 1)
    ∷ keeps (pack_on 97 (1 ∷ replicate 96 0 ++ far 1) (2 ∷ 1 ∷ [])) (refused 4 1)
    ∷ all_keep 1 (frag 2 0 1 1 ++ frag 1 0 1 1) (refused 13 1)
    ++ all_keep 1 (high ++ frag 1 0 1 1) (refused 13 1)
    ++ all_keep 2 (frag 1 1 1 1 ++ frag 2 0 1 1) (refused 13 1)
    ++ all_keep 3 (frag 1 0 1 1 ++ frag 2 2 1 1 ++ frag 3 1 1 1) (refused 13 2)
    -- a stored fragment without calls with a low tag after one with a high tag at start 0; one after a start of 1
    ++ all_keep 1 (frag 2 0 1 1 ++ frag 1 0 0 0) (refused 13 1)
    ++ all_keep 2 (frag 1 1 1 1 ++ frag 2 0 0 0) (refused 13 1)
    ++ all_keep 2 (frag 2 1 1 1 ++ frag 2 0 1 1) (refused 9 1)

-- fragments without calls (paper 02, T-12): pack refuses them, and stored ones are read as ever
pub empty_trials : List Trial
unfolding callless far
empty_trials =
    -- one among others, 17 at its place; of several the first
    keeps (pack_on 2 (cells "--, AA, BB") (1 ∷ 2 ∷ 3 ∷ [])) (refused 17 0)
    ∷ keeps (pack_on 2 (cells "AA, --, BB") (1 ∷ 2 ∷ 3 ∷ [])) (refused 17 1)
    ∷ keeps (pack_on 2 (cells "AA, BB, --") (1 ∷ 2 ∷ 3 ∷ [])) (refused 17 2)
    ∷ keeps (pack_on 2 (cells "AA, --, --") (1 ∷ 2 ∷ 3 ∷ [])) (refused 17 1)
    -- one call is enough
    ∷ accepts (pack_on 3 (cells "A--, -B-, --A") (1 ∷ 2 ∷ 3 ∷ [])) 3 (table_from 1 "A--, -B-, --A" ∷ [])
    -- no columns: every fragment is without calls; no fragments: none is
    ∷ keeps (pack_on 0 [] (1 ∷ 2 ∷ [])) (refused 17 0)
    ∷ accepts (pack_on 0 [] []) 0 ([] ∷ [])
    ∷ accepts (pack_on 128 [] []) 0 ([] ∷ [])
    -- 11 before 17; 6 before 17 in a fragment, and 17 before the 6 of a later one
    ∷ keeps (pack 1 (cells "-") (1 ∷ []) (0 ∷ []) (nines 31)) (refused 11 0)
    ∷ keeps (pack_on 2 (1 ∷ 1 ∷ 0 ∷ 3 ∷ []) (1 ∷ 2 ∷ [])) (refused 6 1)
    ∷ keeps (pack_on 2 (0 ∷ 0 ∷ 0 ∷ 3 ∷ []) (1 ∷ 2 ∷ [])) (refused 17 0)
    -- 17 and 4 cannot meet in a fragment: where no column is called the calls reach over none
    ∷ keeps (pack_on 97 (replicate 97 0) (1 ∷ [])) (refused 17 0)
    ∷ keeps (pack_on 97 (replicate 97 0 ++ far 1) (1 ∷ 2 ∷ [])) (refused 17 0)
    ∷ keeps (pack_on 97 (far 1 ++ replicate 97 0) (1 ∷ 2 ∷ [])) (refused 4 0)
    -- 17 before 9, before 13 by tag and by start, and before both; 9 and 13 of an earlier fragment before 17
    ∷ keeps (pack_on 1 (cells "A, -") (1 ∷ 1 ∷ [])) (refused 17 1)
    ∷ keeps (pack_on 1 (cells "A, -") (2 ∷ 1 ∷ [])) (refused 17 1)
    ∷ keeps (pack_on 2 (cells "-A, --") (1 ∷ 2 ∷ [])) (refused 17 1)
    ∷ keeps (pack_on 2 (cells "-A, --") (2 ∷ 2 ∷ [])) (refused 17 1)
    ∷ keeps (pack_on 1 (cells "A, A, -") (1 ∷ 1 ∷ 2 ∷ [])) (refused 9 1)
    ∷ keeps (pack_on 2 (cells "-A, A-, --") (1 ∷ 2 ∷ 3 ∷ [])) (refused 13 1)
    -- a stored one is unpacked, alone too, and pack refuses what unpack gave; the other services' answers to it are tried above and below
    ∷ unpacks (unpack_on 2 callless) 4 (cells "--, AA, AB, BA") (1 ∷ 2 ∷ 3 ∷ 4 ∷ [])
    ∷ keeps (pack_on 2 (cells "--, AA, AB, BA") (1 ∷ 2 ∷ 3 ∷ 4 ∷ [])) (refused 17 0)
    ∷ unpacks (unpack_on 0 (frag 1 0 0 0)) 1 [] (1 ∷ [])
    ∷ answers (check_on 2 (frag 1 0 0 0)) "0 11 -- -- 1 0"
    ∷ []

-- grades (paper 02, T-07), from 0 to 15
pub grade_trials : List Trial
unfolding printed pair same far all_keep
grade_trials =
    -- a grade is restored through pack and unpack, each against the bytes
    accepts (pack 3 (cells "AA-, BAA, -BB") (10 ∷ 11 ∷ 12 ∷ []) (15 ∷ 0 ∷ 9 ∷ []) (nines 96)) 3 (with_grades (15 ∷ 0 ∷ 9 ∷ []) printed ∷ [])
    ∷ accepts (unpack_on 3 (with_grades (15 ∷ 0 ∷ 9 ∷ []) printed)) 3 (cells "AA-, BAA, -BB" ∷ (10 ∷ 11 ∷ 12 ∷ []) ∷ (15 ∷ 0 ∷ 9 ∷ []) ∷ [])
    -- 15 passes everywhere, and check, conflict_counts, S and F do not look at it; C's table keeps it
    ∷ answers (check_on 1 (with_grades (15 ∷ 15 ∷ []) pair)) "0 1 A B 12 0,0"
    ∷ accepts (counts_on 1 (with_grades (15 ∷ 0 ∷ []) pair)) 2 ((0 ∷ 1 ∷ 1 ∷ 0 ∷ []) ∷ [])
    ∷ answers (s_on 3 (with_grades (0 ∷ 15 ∷ 0 ∷ []) printed)) "1 101 A#B B#A 121 0,0,0"
    ∷ answers (f_on 3 (with_grades (0 ∷ 0 ∷ 15 ∷ []) printed)) "1 111 AA- BAA 120 0,0,-"
    ∷ corrects (c_on 1 (with_grades (15 ∷ 7 ∷ []) pair)) "0 1 A B 12 0,0" (with_grades (15 ∷ 7 ∷ []) pair)
    -- pack's 5 at its place, the first of several
    ∷ keeps (pack 1 (cells "A, A, A") (1 ∷ 2 ∷ 3 ∷ []) (16 ∷ 0 ∷ 0 ∷ []) (nines 96)) (refused 5 0)
    ∷ keeps (pack 1 (cells "A, A, A") (1 ∷ 2 ∷ 3 ∷ []) (15 ∷ 16 ∷ 255 ∷ []) (nines 96)) (refused 5 1)
    ∷ keeps (pack 1 (cells "A, A, A") (1 ∷ 2 ∷ 3 ∷ []) (15 ∷ 15 ∷ 255 ∷ []) (nines 96)) (refused 5 2)
    -- before 6, 17, 4, 9 and 13 of the fragment, and after those of an earlier one
    ∷ keeps (pack 1 (3 ∷ []) (1 ∷ []) (16 ∷ []) (nines 32)) (refused 5 0)
    ∷ keeps (pack 1 (cells "-") (1 ∷ []) (16 ∷ []) (nines 32)) (refused 5 0)
    ∷ keeps (pack 97 (far 1) (1 ∷ []) (16 ∷ []) (nines 32)) (refused 5 0)
    ∷ keeps (pack 1 (cells "A, A") (1 ∷ 1 ∷ []) (0 ∷ 16 ∷ []) (nines 64)) (refused 5 1)
    ∷ keeps (pack 1 (cells "A, A") (2 ∷ 1 ∷ []) (0 ∷ 16 ∷ []) (nines 64)) (refused 5 1)
    ∷ keeps (pack 1 (3 ∷ 1 ∷ []) (1 ∷ 2 ∷ []) (0 ∷ 16 ∷ []) (nines 64)) (refused 6 0)
    ∷ keeps (pack 1 (cells "A, A, A") (2 ∷ 1 ∷ 3 ∷ []) (0 ∷ 0 ∷ 16 ∷ []) (nines 96)) (refused 13 1)
    -- pack's grades are m: 1 after 3, before 2, 11 and the fragments
    ∷ keeps (pack 1 (cells "A, A") (1 ∷ 2 ∷ []) (0 ∷ []) (nines 64)) (refused 1 0)
    ∷ keeps (pack 1 (cells "A, A") (1 ∷ 2 ∷ []) (0 ∷ 0 ∷ 0 ∷ []) (nines 64)) (refused 1 0)
    ∷ keeps (pack 129 [] [] (0 ∷ []) []) (refused 3 0)
    ∷ keeps (pack 0 [] (nines 129) [] []) (refused 1 0)
    ∷ keeps (pack 1 (3 ∷ []) (1 ∷ []) (16 ∷ 16 ∷ []) (nines 31)) (refused 1 0)
    ∷ keeps (pack 1 (cells "A") (1 ∷ []) (16 ∷ []) (nines 31)) (refused 11 0)
    -- unpack's grades buffer is m long: 11 after 2 and before the records
    ∷ keeps (unpack 1 pair (nines 2) (nines 2) (nines 1)) (refused 11 0)
    ∷ keeps (unpack 1 pair (nines 2) (nines 2) (nines 3)) (refused 11 0)
    ∷ keeps (unpack 3 (nines 4128) (nines 387) (nines 129) []) (refused 2 0)
    ∷ keeps (unpack 2 (same ++ same) (nines 8) (nines 4) (nines 5)) (refused 11 0)
    -- 16 is 5 at its record from every service that tests records
    ∷ all_keep 1 (with_grades (15 ∷ 16 ∷ []) pair) (refused 5 1)
    ++ all_keep 1 (with_grades (255 ∷ 0 ∷ []) pair) (refused 5 0)

-- two Bs against one A at column 0, in three fragments that the other columns hold on one side, and a fourth on the other
outvoted : List ℕ
outvoted = table_from 1 "AAA, BAA, BAA, -BB"

-- the same with the Bs corrected, and with the A
all_a : List ℕ
all_a = table_from 1 "AAA, AAA, AAA, -BB"

all_b : List ℕ
all_b = table_from 1 "BAA, BAA, BAA, -BB"

-- T-07: C's total, sides and letters by the weights; corrected records keep their grades
pub weight_trials : List Trial
unfolding outvoted all_a all_b four printed
weight_trials =
    -- grades 15, 0, 0, 15: two corrections of weight 1 cost less than one of weight 60
    corrects (c_on 3 (with_grades (15 ∷ 0 ∷ 0 ∷ 15 ∷ []) outvoted)) "2 111 AAA -BB 1112 0,0,0,0" (with_grades (15 ∷ 0 ∷ 0 ∷ 15 ∷ []) all_a)
    -- grade 0 throughout, and grade 1: the fewest calls, the A
    ∷ corrects (c_on 3 outvoted) "1 111 BAA -BB 1112 0,0,0,0" all_b
    ∷ corrects (c_on 3 (with_grades (1 ∷ 0 ∷ 1 ∷ 0 ∷ []) outvoted)) "1 111 BAA -BB 1112 0,0,0,0" (with_grades (1 ∷ 0 ∷ 1 ∷ 0 ∷ []) all_b)
    -- equal weights, 2 against 1 + 1 and 16 against 13 + 3, turn B to A; one less and the A changes
    ∷ corrects (c_on 3 (with_grades (2 ∷ 0 ∷ 1 ∷ 15 ∷ []) outvoted)) "2 111 AAA -BB 1112 0,0,0,0" (with_grades (2 ∷ 0 ∷ 1 ∷ 15 ∷ []) all_a)
    ∷ corrects (c_on 3 (with_grades (9 ∷ 8 ∷ 3 ∷ 15 ∷ []) outvoted)) "16 111 AAA -BB 1112 0,0,0,0" (with_grades (9 ∷ 8 ∷ 3 ∷ 15 ∷ []) all_a)
    ∷ corrects (c_on 3 (with_grades (9 ∷ 8 ∷ 4 ∷ 15 ∷ []) outvoted)) "16 111 BAA -BB 1112 0,0,0,0" (with_grades (9 ∷ 8 ∷ 4 ∷ 15 ∷ []) all_b)
    -- weights settle the sides too: of AA, AB, BA, BB the two light ones are corrected
    ∷ corrects (c_on 2 four) "2 11 AA BB 1112 0,0,0,0" (table_from 1 "AA, AA, AA, BB")
    ∷ corrects (c_on 2 (with_grades (0 ∷ 15 ∷ 15 ∷ 0 ∷ []) four)) "2 11 AB BA 1121 0,0,0,0" (with_grades (0 ∷ 15 ∷ 15 ∷ 0 ∷ []) (table_from 1 "AB, AB, BA, AB"))
    -- the printed table with a heavy second fragment: another call is corrected
    ∷ corrects (c_on 3 (with_grades (0 ∷ 15 ∷ 0 ∷ []) printed)) "1 111 BAA -BB 112 0,0,0" (with_grades (0 ∷ 15 ∷ 0 ∷ []) (table_from 10 "BA-, BAA, -BB"))
    ∷ []

-- how often two fragments disagree (paper 02, T-06)
pub count_trials : List Trial
unfolding printed same three callless apart
count_trials =
    -- AA-, BAA, -BB: the first two in column 0, the first and the last in column 1, the last two in columns 1 and 2
    accepts (counts_on 3 printed) 3 ((0 ∷ 1 ∷ 1 ∷ 1 ∷ 0 ∷ 2 ∷ 1 ∷ 2 ∷ 0 ∷ []) ∷ [])
    -- AA and BB in both columns; AA and AA in none
    ∷ accepts (counts_on 2 (table_from 1 "AA, BB")) 2 ((0 ∷ 2 ∷ 2 ∷ 0 ∷ []) ∷ [])
    ∷ accepts (counts_on 2 same) 2 ((0 ∷ 0 ∷ 0 ∷ 0 ∷ []) ∷ [])
    -- no records; a fragment without calls; fragments that share no column
    ∷ accepts (counts_on 0 []) 0 ([] ∷ [])
    ∷ accepts (counts_on 128 []) 0 ([] ∷ [])
    ∷ accepts (counts_on 2 callless) 4 ((0 ∷ 0 ∷ 0 ∷ 0 ∷ 0 ∷ 0 ∷ 1 ∷ 1 ∷ 0 ∷ 1 ∷ 0 ∷ 2 ∷ 0 ∷ 1 ∷ 2 ∷ 0 ∷ []) ∷ [])
    ∷ accepts (counts_on 2 apart) 2 ((0 ∷ 0 ∷ 0 ∷ 0 ∷ []) ∷ [])
    -- of the kept columns alone
    ∷ equals (count_on 3 printed (marks "101") 1 2) 1
    ∷ equals (count_on 3 printed (marks "011") 0 1) 0
    -- a table that is not error-free; a table that check refuses
    ∷ accepts (counts_on 2 three) 3 ((0 ∷ 1 ∷ 1 ∷ 1 ∷ 0 ∷ 2 ∷ 1 ∷ 2 ∷ 0 ∷ []) ∷ [])
    ∷ keeps (counts_on 2 (same ++ same)) (refused 9 2)
    -- 3, 1, 2, 11, and the records
    ∷ keeps (counts 129 (printed ++ 0 ∷ []) []) (refused 3 0)
    ∷ keeps (counts 3 (nines 4129) []) (refused 1 0)
    ∷ keeps (counts 3 (nines 4128) []) (refused 2 0)
    ∷ keeps (counts 2 (same ++ same) (nines 15)) (refused 11 0)
    ∷ keeps (counts 3 printed (nines 10)) (refused 11 0)
    ∷ []

-- rules, in order
pub rule_trials : List Trial
unfolding printed holed same lone deep
rule_trials =
    -- before the records: 3, 1, 2, 10, 11
    keeps (S 129 (printed ++ 0 ∷ []) [] []) (refused 3 0)
    ∷ keeps (F 3 (nines 4129) [] []) (refused 1 0)
    ∷ keeps (C 3 (nines 4128) [] [] []) (refused 2 0)
    ∷ keeps (S 3 printed [] (nines 32767)) (refused 10 0)
    ∷ keeps (F 3 printed (nines 15) (nines 32767)) (refused 10 0)
    ∷ keeps (C 3 printed (nines 15) (nines 96) (nines 32767)) (refused 10 0)
    ∷ keeps (check 2 (same ++ same) (nines 13)) (refused 11 0)
    ∷ keeps (S 3 holed (nines 16) work9) (refused 11 0)
    ∷ keeps (F 3 holed [] work9) (refused 11 0)
    ∷ keeps (C 2 (same ++ same) (nines 13) (nines 128) work9) (refused 11 0)
    ∷ keeps (C 2 (same ++ same) (nines 14) (nines 129) work9) (refused 11 0)
    -- the records, each by 4 to 7, 9 and 13, which is tried above
    ∷ keeps (check_on 128 (lone ++ frag 2 0 97 0x55)) (refused 4 1)
    ∷ keeps (check_on 3 (lone ++ frag 2 1 0 0)) (refused 4 1)
    ∷ keeps (check_on 3 (lone ++ filled (2 ∷ 0 ∷ 0 ∷ 0 ∷ 0 ∷ 0 ∷ 1 ∷ 16 ∷ 1 ∷ []))) (refused 5 1)
    ∷ keeps (check_on 3 (lone ++ frag 2 0 1 0x05)) (refused 5 1)
    ∷ keeps (check_on 3 (lone ++ frag 2 0 3 0x1D)) (refused 6 1)
    ∷ keeps (check_on 3 (lone ++ frag 2 0 2 0x04)) (refused 7 1)
    ∷ keeps (check_on 3 (lone ++ frag 2 0 2 0x01)) (refused 7 1)
    ∷ keeps (check_on 3 (lone ++ lone)) (refused 9 1)
    -- by S and F each by 8 too: 8 after 7 and before 9, and before every rule of a later record
    ∷ keeps (s_on 4 (lone ++ frag 2 0 4 0x44)) (refused 7 1)
    ∷ keeps (s_on 3 (lone ++ frag 1 0 3 0x12)) (refused 8 1)
    ∷ keeps (f_on 3 (lone ++ frag 1 0 3 0x12)) (refused 8 1)
    ∷ keeps (c_on 3 (lone ++ frag 1 0 3 0x12)) (refused 9 1)
    ∷ keeps (f_on 3 (frag 1 0 3 0x12 ++ frag 2 1 0 0)) (refused 8 0)
    ∷ keeps (check_on 3 (frag 1 0 3 0x12 ++ frag 2 1 0 0)) (refused 4 1)
    -- 12, C only, after the records: the lowest column that is too deep
    ∷ keeps (c_on 3 deep) (refused 12 1)
    ∷ keeps (c_on 3 (deep ++ frag 1 0 1 1)) (refused 9 9)
    ∷ []

-- the work buffer: all zero over its whole length after an acceptance, as it was after a refusal
pub work_trials : List Trial
unfolding printed holed deep
work_trials =
    works (s_on 3 printed) (replicate 32768 0)
    ∷ works (f_on 3 printed) (replicate 32768 0)
    ∷ works (c_on 3 printed) (replicate 32768 0)
    ∷ works (S 0 [] [] (nines 32769)) (replicate 32769 0)
    ∷ works (s_on 3 holed) work9
    ∷ works (f_on 3 holed) work9
    ∷ works (c_on 3 deep) work9
    ∷ []

-- unpack
pub unpack_trials : List Trial
unfolding printed same
unpack_trials =
    unpacks (unpack_on 3 printed) 3 (cells "AA-, BAA, -BB") (10 ∷ 11 ∷ 12 ∷ [])
    ∷ unpacks (unpack_on 0 []) 0 [] []
    ∷ keeps (unpack 129 (printed ++ 0 ∷ []) [] [] []) (refused 3 0)
    ∷ keeps (unpack 3 (printed ++ 0 ∷ []) [] [] []) (refused 1 0)
    ∷ keeps (unpack 3 (nines 4128) [] [] []) (refused 2 0)
    ∷ keeps (unpack 2 (same ++ same) (nines 7) (nines 4) (nines 4)) (refused 11 0)
    ∷ keeps (unpack 2 (same ++ same) (nines 8) (nines 5) (nines 4)) (refused 11 0)
    ∷ keeps (unpack_on 2 (same ++ same)) (refused 9 2)
    ∷ []

-- pack, and its rules in order: 3, 1, 2, 11; then 6, 4, 9, and 5, 17 and 13, which are tried above
pub pack_trials : List Trial
unfolding printed far
pack_trials =
    accepts (pack_on 3 (cells "AA-, BAA, -BB") (10 ∷ 11 ∷ 12 ∷ [])) 3 (printed ∷ [])
    ∷ keeps (pack_on 129 (3 ∷ []) (1 ∷ [])) (refused 3 0)
    ∷ keeps (pack 2 (3 ∷ []) (nines 129) (replicate 129 0) []) (refused 1 0)
    ∷ keeps (pack 0 [] (nines 129) (replicate 129 0) []) (refused 2 0)
    ∷ keeps (pack 1 (3 ∷ []) (1 ∷ []) (0 ∷ []) (nines 31)) (refused 11 0)
    ∷ keeps (pack_on 97 (far 3) (1 ∷ [])) (refused 6 0)
    ∷ keeps (pack_on 97 (far 1) (1 ∷ [])) (refused 4 0)
    ∷ accepts (pack_on 3 (cells "A--, A-A") (1 ∷ 2 ∷ [])) 2 (table_from 1 "A--, A-A" ∷ [])
    ∷ keeps (pack_on 3 (cells "A--, A-A") (1 ∷ 1 ∷ [])) (refused 9 1)
    ∷ keeps (pack_on 1 (cells "A, A, A") (1 ∷ 2 ∷ 1 ∷ [])) (refused 9 2)
    ∷ []

-- find: the first record with the tag, among whole records, or the empty part at the end
pub find_trials : List Trial
unfolding printed
find_trials =
    finds 11 printed 32 32
    ∷ finds 13 printed 96 0
    ∷ finds 10 (printed ++ printed) 0 32
    ∷ finds 12 (frag 1 0 0 0 ++ nines 31) 63 0
    ∷ finds 9 (nines 31) 31 0
    ∷ finds 0 [] 0 0
    ∷ finds 67305985 (frag 9 0 0 0 ++ filled (1 ∷ 2 ∷ 3 ∷ 4 ∷ [])) 32 32
    ∷ []

-- the host's number
pub host_trials : List Trial
unfolding pair printed holed lone
host_trials =
    equals (host_code (leaves (check_on 1 pair)).0) 0
    ∷ equals (host_code (leaves (check_on 3 printed)).0) 1
    ∷ equals (host_code (leaves (check_on 3 (lone ++ lone))).0) 9001
    ∷ equals (host_outcome (leaves (s_on 3 printed)).0) 1
    ∷ equals (host_outcome (leaves (s_on 3 holed)).0) 34359738369
    ∷ reads 1000 1 (accepted 1)
    ∷ reads 1000 8002 (refused 8 2)
    ∷ reads 4294967296 16384 (accepted 16384)
    ∷ reads 4294967296 34359738370 (refused 8 2)
    ∷ []

-- all trials but paper 01's
pub other_trials : List Trial
unfolding above_trials answer_trials block_trials pair_trials mate_trials rising_trials empty_trials grade_trials weight_trials count_trials rule_trials work_trials unpack_trials pack_trials find_trials host_trials
other_trials = above_trials ++ answer_trials ++ block_trials ++ pair_trials ++ mate_trials ++ rising_trials ++ empty_trials ++ grade_trials ++ weight_trials ++ count_trials ++ rule_trials ++ work_trials ++ unpack_trials ++ pack_trials ++ find_trials ++ host_trials

-- all of these
pub others-pass : failing 0 other_trials ≡ []
unfolding failing other_trials
others-pass = refl

-- all trials: paper 01's marked P, and the others
pub all_pass : (failing 0 p_trials ≡ []) × (failing 0 other_trials ≡ [])
all_pass = (p-pass, others-pass)
