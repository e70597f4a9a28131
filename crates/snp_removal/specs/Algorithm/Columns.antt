-- Columns in conflict, and gapless tables (paper 001, sections 3 and 3.1).
-- Assumes nothing.
use Rattle.std.specs.Prelude.{ℕ, zero, suc, Bool, true, List}
use Rattle.below.specs.Below.{◌=?◌, ◌and◌, ◌or◌, isnt, any_below}
use Rattle.fields.specs.Record.{is_call_code}
use Rattle.conflicts.specs.Grid.{Grid}
use Rattle.places.specs.declared.lines.Line.{Line}
use Rattle.places.specs.Algorithm.Places.{occupied, both_kinds}
use Rattle.masks.specs.Algorithm.Masks.{line_at}

-- fragment f calls columns a and c
unfoldable pub calls_both : Grid → ℕ → ℕ → ℕ → Bool
calls_both g a c f = is_call_code (g.cell f a) and is_call_code (g.cell f c)

-- one value "is the negation of" the other
unfoldable pub negation : Bool → Bool → Bool
negation x y = x and isnt y or isnt x and y

-- "two SNPs are in conflict": there are fragments f and h that call both, and f has the letter of h at one of the two only
unfoldable pub columns_conflict_in : Grid → ℕ → ℕ → Bool
columns_conflict_in g a c =
    any_below g.m (λ f. any_below g.m (λ h. calls_both g a c f and calls_both g a c h and negation (g.cell f a =? g.cell h a) (g.cell f c =? g.cell h c)))

-- state j is in "OK(c)", so that column c may be kept: j is the last kept mixed column plus one, or 0 for none
unfoldable pub can_follow : Grid → ℕ → ℕ → Bool
can_follow g zero c = true
can_follow g (suc a) c = isnt (columns_conflict_in g a c)

-- the same by the lines of the columns' masks: no fragment has one letter at both, or none has two
unfoldable pub words_follow : List Line → ℕ → ℕ → Bool
words_follow lines zero c = true
words_follow lines (suc a) c = isnt (both_kinds (line_at lines a) (line_at lines c))

-- a column is mixed, by its line
unfoldable pub words_mixed : List Line → ℕ → Bool
words_mixed lines c = occupied (line_at lines c).a and occupied (line_at lines c).b
