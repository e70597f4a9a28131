-- What the computed trials read from texts: an answer as the listing prints it, cells and tables in letters, keep marks. None of the definitions on trial is used here.
-- Assumes nothing.
use Rattle.std.specs.Prelude.{if◌then◌else◌}
use mathlib.Core.Bool.{Bool}
use mathlib.Core.List.{List, [], ◌∷◌, ◌++◌}
use Prim.Native.Nat.{ℕ, zero, suc, ◌+◌, ◌*◌, ◌-◌}
use Prim.Native.Char.{code}
use Prim.Native.String.{String}
use lib.Dec.{eqb, ltb}
use lib.ListN.{length, take, drop, get_or}
use Rattle.records.proofs.TrialTools.{same_list, filled, made}
use Rattle.below.specs.Text.{ascii}

-- ---- characters, by their numbers

-- a digit's number; any other character gives a number over 9
digit : ℕ → ℕ
digit c = if ltb c (code "0") then c else c - code "0"

-- a letter's code: - hole, A, B, # removed column; any other character stays its own number, which is no code
letter : ℕ → ℕ
letter c = if eqb c (code "-") then 0 else (if eqb c (code "A") then 1 else (if eqb c (code "B") then 2 else (if eqb c (code "#") then 3 else c)))

-- each character, read so
each : (ℕ → ℕ) → List ℕ → List ℕ
each read [] = []
each read (c ∷ cs) = read c ∷ each read cs

-- all characters but one
without : ℕ → List ℕ → List ℕ
without mark [] = []
without mark (c ∷ cs) = if eqb c mark then without mark cs else c ∷ without mark cs

-- a character before the first of some parts
onto : ℕ → List (List ℕ) → List (List ℕ)
onto c [] = (c ∷ []) ∷ []
onto c (part ∷ parts) = (c ∷ part) ∷ parts

-- the parts of a text that a mark separates; an empty text has none
split : ℕ → List ℕ → List (List ℕ)
unfolding onto
split mark [] = []
split mark (c ∷ cs) = if eqb c mark then [] ∷ split mark cs else onto c (split mark cs)

-- these characters are this text
is : String → List ℕ → Bool
unfolding ascii same_list
is text cs = same_list eqb cs (ascii text)

-- ---- a line of the listing

-- the decimal number of some digits, after others
decimal : ℕ → List ℕ → ℕ
unfolding digit
decimal before [] = before
decimal before (c ∷ cs) = decimal (10 * before + digit c) cs

-- blocks, each a number, or 255 for the - of a removed fragment
blocks : List (List ℕ) → List ℕ
unfolding is decimal
blocks [] = []
blocks (b ∷ bs) = (if is "-" b then 255 else decimal 0 b) ∷ blocks bs

-- a field; a full stop is an empty one
shown : List ℕ → List ℕ
unfolding is
shown cs = if is "." cs then [] else cs

-- field k of a line, from 0
field : ℕ → String → List ℕ
unfolding ascii split shown
field k line = shown (get_or (split (code " ") (ascii line)) k [])

-- the count, a line's first field
unfoldable pub count_in : String → ℕ
unfolding field decimal
count_in line = decimal 0 (field 0 line)

-- the answer's bytes, of the other fields: keep marks, haplotype 1, haplotype 2, sides, blocks
unfoldable pub answer_in : String → List ℕ
unfolding field each digit letter blocks split
answer_in line =
    each digit (field 1 line)
    ++ each letter (field 2 line)
    ++ each letter (field 3 line)
    ++ each digit (field 4 line)
    ++ blocks (split (code ",") (field 5 line))

-- ---- marks, cells and tables

-- keep marks, as 101
unfoldable pub marks : String → List ℕ
unfolding ascii each digit
marks text = each digit (ascii text)

-- the cells of all fragments, one after the other, as AA-, BAA, -BB
unfoldable pub cells : String → List ℕ
unfolding ascii each letter without
cells text = each letter (without (code ",") (without (code " ") (ascii text)))

-- a record of at most 4 cells: its tag, start and span below 256, and the byte of its cells
unfoldable pub frag : ℕ → ℕ → ℕ → ℕ → List ℕ
unfolding filled made
frag tag start span byte = made tag start span 0 (byte ∷ [])

-- a cell before others that have no hole at their end; dropped if it is itself a hole at the end
ended : ℕ → List ℕ → List ℕ
ended zero [] = []
ended zero (d ∷ ds) = zero ∷ d ∷ ds
ended (suc c) ds = suc c ∷ ds

-- a row without the holes at its end
to_last : List ℕ → List ℕ
unfolding ended
to_last [] = []
to_last (c ∷ cs) = ended c (to_last cs)

-- how many holes a row starts with
holes : List ℕ → ℕ
holes [] = 0
holes (zero ∷ cs) = suc (holes cs)
holes (suc c ∷ cs) = 0

-- the byte of at most 4 cells, the first lowest
unfoldable pub byte_of : List ℕ → ℕ
byte_of [] = 0
byte_of (c ∷ cs) = c + 4 * byte_of cs

-- the record of a row: its span goes from the first call to the last, at most 4 cells
row_record : ℕ → List ℕ → List ℕ
unfolding frag to_last holes byte_of
row_record tag row =
    let until = to_last row in
    let span = drop (holes until) until in
    frag tag (holes until) (length span) (byte_of span)

-- the records of some rows, with tags from this number on
records_from : ℕ → List (List ℕ) → List ℕ
unfolding row_record each letter
records_from tag [] = []
records_from tag (row ∷ rows) = row_record tag (each letter row) ++ records_from (suc tag) rows

-- the table of fragments in letters, as AA-, BAA, -BB, with tags from this number on
unfoldable pub table_from : ℕ → String → List ℕ
unfolding ascii without split records_from
table_from tag text = records_from tag (split (code ",") (without (code " ") (ascii text)))

-- a table with these grades in the places of its own
unfoldable pub with_grades : List ℕ → List ℕ → List ℕ
with_grades [] table = table
with_grades (g ∷ gs) table = take 7 table ++ (g ∷ (take 24 (drop 8 table) ++ with_grades gs (drop 32 table)))
