-- What the programme reads, and what its table holds after each fragment.
-- Assumes nothing.
use Rattle.std.specs.Prelude.{◌≡◌, List, ℕ, ◌+◌, ◌-◌, ◌≤◌, ◌<◌}
use Rattle.below.specs.Below.{nth}
use Rattle.fields.specs.Writing.{calls_start_of}
use Rattle.conflicts.specs.Grid.{Grid}
use Rattle.matrix.specs.Algorithm.Matrix.{Gapless, Rising}
use Rattle.places.specs.declared.lines.Line.{Line}
use Rattle.masks.specs.Algorithm.Masks.{Masks, words_grid}
use Rattle.fragment_states.specs.Algorithm.Fragments.{Begins, state_reach_of}
use Rattle.fragment_removal.specs.Algorithm.Programme.{most_kept}

-- what the programme reads: the lines of a gapless matrix whose fragments rise by start, and how far each state reaches
pub record Prepared (m n : ℕ) (lines : List Line) (reaches : List ℕ) : Type 0 where
  pub few : m ≤ 128
  pub masks : Masks (words_grid m n lines) lines
  pub gapless : Gapless (words_grid m n lines)
  pub rising : Rising (words_grid m n lines)
  pub reaching : Begins (state_reach_of (words_grid m n lines)) (m + 1) reaches

-- a table of weights holds the greatest of the last k fragments, at every pair of states from d on that can stand before them
pub record HoldsFragments (g : Grid) (k d : ℕ) (v : ℕ → ℕ → ℕ) : Type 0 where
  pub holds : (h l : ℕ) → d ≤ h → d ≤ l → h ≤ g.m - k → l ≤ g.m - k → v h l ≡ most_kept g k h l

-- no state up to d reaches further than one of the last k fragments starts: it agrees with all of them, and a fragment that has a call moves it on
pub record Dead (g : Grid) (k d : ℕ) : Type 0 where
  pub behind : (s p : ℕ) → s ≤ d → g.m - k ≤ p → p < g.m → state_reach_of g s ≤ calls_start_of g.n (g.cell p)

-- no state up to d reaches past a start
pub record Behind (reaches : List ℕ) (start d : ℕ) : Type 0 where
  pub behind : (s : ℕ) → s ≤ d → nth reaches s ≤ start
