-- The masks of a matrix: for each line, a fragment or a column, the places at which it has A, and those at which it has B.
-- Assumes nothing.
use Rattle.std.specs.Prelude.{◌≡◌, Bool, List, ℕ, ◌+◌, ◌≤◌, ◌<◌, length, get_or, if◌then◌else◌}
use Rattle.below.specs.Below.{◌=?◌, ◌<?◌, ◌and◌, tab}
use Rattle.fields.specs.Record.{start_of, span_of, cell_of}
use Rattle.fields.specs.Table.{fragments, record_bytes_at}
use Rattle.conflicts.specs.Grid.{Grid}
use Rattle.places.specs.declared.lines.Line.{Line}
use Rattle.places.specs.Algorithm.Places.{places_where, has_place}

-- fragment i has the letter at column c
unfoldable pub has_letter : Grid → ℕ → ℕ → ℕ → Bool
has_letter g letter i c = i <? g.m and c <? g.n and g.cell i c =? letter

-- where fragment i has A, and where B
unfoldable pub line_of : Grid → ℕ → Line
line_of g i = record { a = places_where (has_letter g 1 i); b = places_where (has_letter g 2 i) }

-- the words of all fragments, and of none up to 128: a line of them each
unfoldable pub mask_words : Grid → List Line
mask_words g = tab 128 (line_of g)

-- a line without letters
abbrev pub no_letters : Line
no_letters = record { a = record { low = 0; high = 0 }; b = record { low = 0; high = 0 } }

-- line i of a list of lines
abbrev pub line_at : List Line → ℕ → Line
line_at lines i = get_or lines i no_letters

-- the matrix with its columns as fragments
unfoldable pub transposed : Grid → Grid
transposed g = record { m = g.n; n = g.m; cell = λ c i. g.cell i c; weight = λ c. 1 }

-- the lines of a matrix of at most 128 fragments and columns
pub record Masks (g : Grid) (lines : List Line) : Type 0 where
  pub few : g.m ≤ 128
  pub narrow : g.n ≤ 128
  pub are : lines ≡ mask_words g

-- the code that a line has at place c
unfoldable pub code_in : Line → ℕ → ℕ
code_in line c = if has_place line.a c then 1 else (if has_place line.b c then 2 else 0)

-- the matrix of a list of lines. Only C looks at weights, and it works on cells
unfoldable pub words_grid : ℕ → ℕ → List Line → Grid
words_grid m n lines = record { m = m; n = n; cell = λ i c. code_in (line_at lines i) c; weight = λ i. 1 }

-- the lines below i are those of a matrix
pub record WordsBegun (g : Grid) (i : ℕ) (lines : List Line) : Type 0 where
  pub sized : length lines ≡ 128
  pub done : (k : ℕ) → k < i → line_at lines k ≡ line_of g k

-- what the letters of a record must be for its fragment to have them: none past the span, none with both bits, and the span among n columns
pub record Lettered (n : ℕ) (r : List ℕ) : Type 0 where
  pub fits : start_of r + span_of r ≤ n
  pub small : (k : ℕ) → k < span_of r → cell_of r k ≤ 2
  pub after : (k : ℕ) → span_of r ≤ k → cell_of r k ≡ 0

-- … for each record of a table
pub record LetteredTable (n : ℕ) (table : List ℕ) : Type 0 where
  pub each : (i : ℕ) → i < fragments table → Lettered n (record_bytes_at table i)
