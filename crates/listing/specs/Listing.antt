-- The listing of a table, as bytes (paper 01, "The listing program").
-- Assumes nothing.
use Rattle.std.specs.Prelude.{ℕ, zero, suc, ◌+◌, ◌*◌, ◌/◌, ◌%◌, List, [], ◌∷◌, ◌++◌, get_or, replicate, if◌then◌else◌}
use Prim.Native.Char.{Char, code}
use Rattle.below.specs.Below.{◌=?◌, ◌<?◌, tab}
use Rattle.records.specs.Outcome.{Verdict, accepted, refused}
use Rattle.fields.specs.Table.{column_count_of}
use Rattle.records.specs.Rules.{table_verdict}
use Rattle.conflicts.specs.Answer.{answer_size, keep_mark_in, haplotype_in, side_in, block_in}
use Rattle.conflicts.specs.Services.{check_leaves, snp_removal_leaves, fragment_removal_leaves, corrections_leaves}
use Rattle.below.specs.Text.{ascii}

-- ---- words

-- the decimal digits of a number, as far as the fuel reaches
unfoldable pub digits_of : ℕ → ℕ → List ℕ
digits_of zero x = []
digits_of (suc fuel) x = (if x <? 10 then [] else digits_of fuel (x / 10)) ++ ((code "0" + x % 10) ∷ [])

-- a number in decimal digits, with no 0 in front
unfoldable pub decimal : ℕ → List ℕ
decimal x = digits_of (suc x) x

-- "keep marks" and "sides": the digits 0, 1, 2
unfoldable pub digits : List ℕ
digits = ascii "012"

-- "haplotype": - a hole, A, B, # a removed column
unfoldable pub letters : List ℕ
letters = ascii "-AB#"

-- a code by its sign, one of the digits or of the letters
unfoldable pub sign_of : List ℕ → ℕ → ℕ
sign_of signs k = get_or signs k 0

-- a block: its number, or "- removed fragment"
unfoldable pub block_word : ℕ → List ℕ
block_word block = if block =? 255 then ascii "-" else decimal block

-- words, each after a separator
unfoldable pub led : Char → List (List ℕ) → List ℕ
led separator [] = []
led separator (w ∷ ws) = code separator ∷ (w ++ led separator ws)

-- words with a separator between two of them
unfoldable pub joined : Char → List (List ℕ) → List ℕ
joined separator [] = []
joined separator (w ∷ ws) = w ++ led separator ws

-- "an empty field prints as a full stop"
unfoldable pub field : List ℕ → List ℕ
field [] = ascii "."
field (b ∷ bs) = b ∷ bs

-- ---- lines

-- words with spaces between them, and a line feed
unfoldable pub line : List (List ℕ) → List ℕ
line words = joined " " words ++ ascii "\n"

-- a refusal: `refused 8 at 2`
unfoldable pub refusal : ℕ → ℕ → List (List ℕ)
refusal number place = ascii "refused" ∷ decimal number ∷ ascii "at" ∷ decimal place ∷ []

-- the first line: `fragments 3 snps 3`
unfoldable pub sizes_line : ℕ → ℕ → List ℕ
sizes_line m n = line (ascii "fragments" ∷ decimal m ∷ ascii "snps" ∷ decimal n ∷ [])

-- the second line "ends in `yes` for an error-free table": check's count is 0 for yes. Check refuses no table that is accepted (`ServicesSay` in Lines), so `no` is check's (`LinesSay`)
unfoldable pub error_free_line : Verdict → List ℕ
error_free_line (accepted zero) = ascii "error-free yes\n"
error_free_line (accepted (suc count)) = ascii "error-free no\n"
error_free_line (refused number place) = ascii "error-free no\n"

-- "keep marks, haplotype 1, haplotype 2" of an answer for n columns
unfoldable pub column_fields : ℕ → List ℕ → List (List ℕ)
column_fields n answer =
    field (tab n (λ c. sign_of digits (keep_mark_in answer c)))
    ∷ field (tab n (λ c. sign_of letters (haplotype_in n answer 0 c)))
    ∷ field (tab n (λ c. sign_of letters (haplotype_in n answer 1 c)))
    ∷ []

-- "sides, blocks" of an answer for m fragments and n columns; blocks are joined by commas
unfoldable pub fragment_fields : ℕ → ℕ → List ℕ → List (List ℕ)
fragment_fields m n answer =
    field (tab m (λ i. sign_of digits (side_in n answer i)))
    ∷ field (joined "," (tab m (λ i. block_word (block_in m n answer i))))
    ∷ []

-- "fields after the letter": the count and the answer's
unfoldable pub fields : ℕ → ℕ → ℕ → List ℕ → List (List ℕ)
fields m n count answer = decimal count ∷ (column_fields n answer ++ fragment_fields m n answer)

-- a service's line: its letter, then its fields or the refusal
unfoldable pub service_line : ℕ → ℕ → ℕ → Verdict → List ℕ → List ℕ
service_line letter m n (accepted count) answer = line ((letter ∷ []) ∷ fields m n count answer)
service_line letter m n (refused number place) answer = line ((letter ∷ []) ∷ refusal number place)

-- ---- the listing

-- a buffer that is lent to a service: all 0
unfoldable pub blank : ℕ → List ℕ
blank size = replicate size 0

-- the second line, by what check says
unfoldable pub check_line : ℕ → ℕ → List ℕ → List ℕ
check_line m n table = error_free_line (check_leaves n table (blank (answer_size m n))).outcome

-- S's line
unfoldable pub snp_removal_line : ℕ → ℕ → List ℕ → List ℕ
snp_removal_line m n table = let left = snp_removal_leaves n table (blank (answer_size m n)) (blank 32768) in service_line (code "S") m n left.outcome left.answer

-- F's line
unfoldable pub fragment_removal_line : ℕ → ℕ → List ℕ → List ℕ
fragment_removal_line m n table = let left = fragment_removal_leaves n table (blank (answer_size m n)) (blank 32768) in service_line (code "F") m n left.outcome left.answer

-- C's line
unfoldable pub correction_line : ℕ → ℕ → List ℕ → List ℕ
correction_line m n table = let left = corrections_leaves n table (blank (answer_size m n)) (blank (32 * m)) (blank 32768) in service_line (code "C") m n left.outcome left.answer

-- S's, F's or C's line, by its letter
unfoldable pub least_line : ℕ → ℕ → ℕ → List ℕ → List ℕ
least_line letter m n table = if letter =? code "S" then snp_removal_line m n table else (if letter =? code "F" then fragment_removal_line m n table else correction_line m n table)

-- the five lines of a table of m fragments and n columns; "a refusal of the table prints one line, and no more"
unfoldable pub listed : ℕ → List ℕ → Verdict → List ℕ
listed n table (accepted m) = sizes_line m n ++ (check_line m n table ++ (snp_removal_line m n table ++ (fragment_removal_line m n table ++ correction_line m n table)))
listed n table (refused number place) = line (refusal number place)

-- the listing of a table, with n "the largest start + span of the whole records (0 if none)"
unfoldable pub listing : List ℕ → List ℕ
listing table = let n = column_count_of table in listed n table (table_verdict n table)
