-- The tally of a column (paper 01, "What the words mean"). Each of its two counts stays at 4,294,967,295, the last that it can hold.
-- Assumes nothing.
use Rattle.std.specs.Prelude.{ℕ, zero, suc, ◌+◌, Bool, if◌then◌else◌}
use Rattle.below.specs.Below.{◌=?◌, ◌<?◌, ◌and◌}
use Rattle.conflicts.specs.Grid.{Grid}
use Rattle.conflicts.specs.declared.Tally.{Tally}

-- the tally "starts with none of either letter"
abbrev pub no_calls : Tally
no_calls = record { a = 0; b = 0 }

-- one more, up to the last number that a count can hold
unfoldable pub one_more_of : ℕ → ℕ
one_more_of x = if x <? 4294967295 then x + 1 else x

-- the tally "takes one call at a time": code 1 is A, code 2 is B, and any other code is no call
unfoldable pub tallied : Tally → ℕ → Tally
tallied t code = record { a = if code =? 1 then one_more_of t.a else t.a; b = if code =? 2 then one_more_of t.b else t.b }

-- "mixed if both A and B occur"
unfoldable pub mixed_tally : Tally → Bool
mixed_tally t = 0 <? t.a and 0 <? t.b

-- the tally of a column after its first k fragments
unfoldable pub tally_of : Grid → ℕ → ℕ → Tally
tally_of g c zero = no_calls
tally_of g c (suc k) = tallied (tally_of g c k) (g.cell k c)
