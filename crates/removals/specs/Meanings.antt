-- What S and F promise of their outcomes, in the terms of papers 01 and 001.
-- Assumes nothing.
use Rattle.std.specs.Prelude.{◌≡◌, List, ℕ}
use Rattle.records.specs.Outcome.{Verdict, accepted}
use Rattle.conflicts.specs.Grid.{grid_of}
use Rattle.conflicts.specs.Minimality.{SnpRemoval, FragmentRemoval}

-- S's number and answer, as demand 3 has them: every set of columns that works has at least as many; the set handed back works, is exactly that many, and is the first
pub record SnpSays (n : ℕ) (table answer : List ℕ) (verdict : Verdict) : Type 0 where
  pub least : (count : ℕ) → verdict ≡ accepted count → SnpRemoval (grid_of n table) answer count

-- F's number and answer, the same for fragments
pub record FragmentSays (n : ℕ) (table answer : List ℕ) (verdict : Verdict) : Type 0 where
  pub least : (count : ℕ) → verdict ≡ accepted count → FragmentRemoval (grid_of n table) answer count
