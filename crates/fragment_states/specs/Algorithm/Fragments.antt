-- How far fragments and the states of a side reach, and which fragments agree with a state (paper 001, section 5.2).
-- Assumes nothing.
use Rattle.std.specs.Prelude.{◌≡◌, Bool, true, List, ℕ, zero, suc, ◌≤◌, ◌<◌}
use Rattle.below.specs.Below.{isnt, nth}
use Rattle.fields.specs.Writing.{calls_end_of}
use Rattle.conflicts.specs.Grid.{Grid, agree}
use Rattle.places.specs.declared.lines.Line.{Line}
use Rattle.places.specs.Algorithm.Places.{occupied, conflict_places}
use Rattle.masks.specs.Algorithm.Masks.{line_at}

-- one past the last called column of a fragment, 0 without calls
unfoldable pub reach : Grid → ℕ → ℕ
reach g p = calls_end_of g.n (g.cell p)

-- a list begins with f 0, …, f (n - 1)
pub record Begins (f : ℕ → ℕ) (n : ℕ) (list : List ℕ) : Type 0 where
  pub begins : (i : ℕ) → i < n → nth list i ≡ f i

-- a list has f k, …, f (n - 1) at these places
pub record Between (f : ℕ → ℕ) (k n : ℕ) (list : List ℕ) : Type 0 where
  pub between : (i : ℕ) → k ≤ i → i < n → nth list i ≡ f i

-- a side's state: 0 if no fragment is kept on it, and else one more than the position of the one "that reaches furthest"; how far that one reaches
unfoldable pub state_reach_of : Grid → ℕ → ℕ
state_reach_of g zero = 0
state_reach_of g (suc h) = reach g h

-- the fragment at position i agrees with a side's state
unfoldable pub can_join : Grid → ℕ → ℕ → Bool
can_join g zero i = true
can_join g (suc h) i = agree g h i

-- two fragments agree by their lines: there is no column on which they conflict
unfoldable pub words_agree : List Line → ℕ → ℕ → Bool
words_agree lines p q = isnt (occupied (conflict_places (line_at lines p) (line_at lines q)))

-- the fragment at position i agrees with a side's state, by the lines
unfoldable pub words_join : List Line → ℕ → ℕ → Bool
words_join lines zero i = true
words_join lines (suc h) i = words_agree lines h i
