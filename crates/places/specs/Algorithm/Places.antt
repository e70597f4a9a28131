-- Sets of places below 128, and what two lines of a matrix have at them.
-- Assumes nothing.
use Rattle.std.specs.Prelude.{Bool, not, ℕ, ◌+◌, ◌-◌, ◌/◌, ◌%◌, ◌^◌, eqb, if◌then◌else◌}
use Rattle.std.specs.Int.Bits.{bit_and, bit_or}
use Rattle.std.specs.Int.Count.{ones}
use Rattle.below.specs.Below.{◌=?◌, ◌<?◌, ◌and◌}
use Rattle.places.specs.declared.places.Places.{Places}
use Rattle.places.specs.declared.lines.Line.{Line}
use Rattle.places.specs.Algorithm.Words.{half_word}

-- the places that pass a test
unfoldable pub places_where : (ℕ → Bool) → Places
places_where p = record { low = half_word p 0; high = half_word p 1 }

-- the places in both sets, and those in either
unfoldable pub both_places : Places → Places → Places
both_places x y = record { low = bit_and x.low y.low; high = bit_and x.high y.high }

unfoldable pub either_of : Places → Places → Places
either_of x y = record { low = bit_or x.low y.low; high = bit_or x.high y.high }

-- the places of one set that another has not
unfoldable pub without_of : Places → Places → Places
without_of x y = record { low = x.low - bit_and x.low y.low; high = x.high - bit_and x.high y.high }

-- whether a set has the place
unfoldable pub has_place : Places → ℕ → Bool
has_place x c = (if c <? 64 then x.low / 2 ^ c else x.high / 2 ^ (c - 64)) % 2 =? 1

-- how many places a set has, and whether it has one
unfoldable pub size : Places → ℕ
size x = ones x.low + ones x.high

unfoldable pub occupied : Places → Bool
occupied x = not (eqb (bit_or x.low x.high) 0)

-- where two lines have two letters, and where they have one
unfoldable pub conflict_places : Line → Line → Places
conflict_places x y = either_of (both_places x.a y.b) (both_places x.b y.a)

unfoldable pub agree_places : Line → Line → Places
agree_places x y = either_of (both_places x.a y.a) (both_places x.b y.b)

-- where either line has A, and where either has B
unfoldable pub either_line : Line → Line → Line
either_line x y = record { a = either_of x.a y.a; b = either_of x.b y.b }

-- two lines conflict at a kept place
unfoldable pub conflict_kept_in : Places → Line → Line → Bool
conflict_kept_in keep x y = occupied (both_places keep (conflict_places x y))

-- at how many kept places two lines conflict
unfoldable pub conflict_size : Places → Line → Line → ℕ
conflict_size keep x y = size (both_places keep (conflict_places x y))

-- some place has one letter in both lines, and some has two
unfoldable pub both_kinds : Line → Line → Bool
both_kinds x y = occupied (agree_places x y) and occupied (conflict_places x y)
