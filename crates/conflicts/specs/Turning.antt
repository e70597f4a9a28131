-- What sides say within a block and across blocks (paper 01, "Where programs of this kind go astray": "They say nothing of each other"; paper 02, T-04).
-- Assumes nothing.
use Rattle.std.specs.Prelude.{◌≡◌, Bool, List, ℕ, ◌<◌, T, if◌then◌else◌}
use Rattle.below.specs.Below.{◌=?◌, isnt}
use Rattle.conflicts.specs.Grid.{Grid, grid_of}
use Rattle.conflicts.specs.Answer.{keep_mark_in, side_in, block_in}
use Rattle.conflicts.specs.Minimality.{LawfulSides, SidesCost}

-- side 2 for 1 and 1 for 2; a removed fragment stays on 0
unfoldable pub other_side : ℕ → ℕ
other_side side = if side =? 1 then 2 else (if side =? 2 then 1 else side)

-- fragment i of an answer is in one of the chosen blocks
unfoldable pub in_chosen : ℕ → ℕ → List ℕ → (ℕ → Bool) → ℕ → Bool
in_chosen m n bytes chosen i = chosen (block_in m n bytes i)

-- sides with the chosen blocks of an answer turned over: each of their fragments on the other side, and the others as they were
unfoldable pub turned_sides : ℕ → ℕ → List ℕ → (ℕ → Bool) → (ℕ → ℕ) → ℕ → ℕ
turned_sides m n bytes chosen side i = if in_chosen m n bytes chosen i then other_side (side i) else side i

-- sides 1 or 2 for each fragment that an answer keeps and 0 for each that it removes, lawful on the columns that it keeps
abbrev pub LawfulFor : Grid → List ℕ → (ℕ → ℕ) → Type 0
LawfulFor g bytes side = LawfulSides 2 g (λ c. isnt (keep_mark_in bytes c =? 0)) (λ i. isnt (side_in g.n bytes i =? 0)) side

-- check, S, F: the answer's sides are such; whichever blocks are turned over, such sides stay such; two kept fragments of one block are together in all such sides or in none
pub record BlocksPhase (g : Grid) (bytes : List ℕ) : Type 0 where
  pub own : LawfulFor g bytes (side_in g.n bytes)
  pub across : (side : ℕ → ℕ) → LawfulFor g bytes side → (chosen : ℕ → Bool) → LawfulFor g bytes (turned_sides g.m g.n bytes chosen side)
  pub within : (i j : ℕ) → i < g.m → j < g.m → T (isnt (side_in g.n bytes i =? 0)) → T (isnt (side_in g.n bytes j =? 0)) → block_in g.m g.n bytes i ≡ block_in g.m g.n bytes j
      → (side other : ℕ → ℕ) → LawfulFor g bytes side → LawfulFor g bytes other → side i ≡ side j → other i ≡ other j

-- C: the same of sides that are lawful in the corrected table, and they cost as little in the table given
pub record CorrectedPhase (n : ℕ) (given bytes table : List ℕ) (number : ℕ) : Type 0 where
  pub blocks : BlocksPhase (grid_of n table) bytes
  pub costs : (side : ℕ → ℕ) → LawfulFor (grid_of n table) bytes side → SidesCost 2 (grid_of n given) number side
