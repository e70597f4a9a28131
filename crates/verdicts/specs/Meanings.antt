-- What check promises of its outcome, in the terms of papers 01 and 001.
-- Assumes nothing.
use Rattle.std.specs.Prelude.{◌≡◌, ◌⊎◌, List, ℕ}
use Rattle.records.specs.Outcome.{Verdict, accepted}
use Rattle.conflicts.specs.Grid.{grid_of}
use Rattle.conflicts.specs.Minimality.{AgreeingClasses, ErrorFreeAnswer}

-- "check says yes if two classes of agreeing fragments exist, and no if not"; on a yes the answer is that of the first lawful sides
pub record CheckSays (n : ℕ) (table answer : List ℕ) (verdict : Verdict) : Type 0 where
  pub says : (count : ℕ) → verdict ≡ accepted count
      → ((count ≡ 0) × AgreeingClasses (grid_of n table)) ⊎ ((count ≡ 1) × (AgreeingClasses (grid_of n table) → ⊥))
  pub phased : verdict ≡ accepted 0 → ErrorFreeAnswer (grid_of n table) answer
