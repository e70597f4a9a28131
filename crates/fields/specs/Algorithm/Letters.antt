-- The letters of a record's cells as sets of places.
-- Assumes nothing.
use Rattle.std.specs.Prelude.{Bool, List, ℕ, ◌+◌, ◌*◌, ◌/◌, ◌%◌, ◌^◌}
use Rattle.below.specs.Below.{◌=?◌, isnt}
use Rattle.places.specs.declared.places.Places.{Places}
use Rattle.places.specs.declared.lines.Line.{Line}
use Rattle.places.specs.Algorithm.Words.{word_of}
use Rattle.places.specs.Algorithm.Places.{places_where}
use Rattle.fields.specs.Record.{cell_of}

-- a code has the bit for A, the bit for B
unfoldable pub has_a : ℕ → Bool
has_a x = x % 2 =? 1

unfoldable pub has_b : ℕ → Bool
has_b x = x / 2 =? 1

-- the letters of a byte's four cells: A in the low four bits, B in the others
unfoldable pub fours_of : ℕ → ℕ
fours_of x = word_of 4 (λ q. has_a (x / 4 ^ q % 4)) + 16 * word_of 4 (λ q. has_b (x / 4 ^ q % 4))

-- the cells of a record with the bit for A, and those with the bit for B
unfoldable pub letters_in : List ℕ → Line
letters_in r = record { a = places_where (λ k. has_a (cell_of r k)); b = places_where (λ k. has_b (cell_of r k)) }

-- the cells of a record that are not holes
unfoldable pub calls_of : List ℕ → Places
calls_of r = places_where (λ k. isnt (cell_of r k =? 0))
