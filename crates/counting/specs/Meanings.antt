-- What conflict_counts promises of its outcome, in the terms of paper 02, T-06.
-- Assumes nothing.
use Rattle.std.specs.Prelude.{◌≡◌, List, ℕ}
use Rattle.records.specs.Outcome.{Verdict, accepted}
use Rattle.fields.specs.Table.{fragments}
use Rattle.conflicts.specs.Grid.{grid_of}
use Rattle.conflicts.specs.Counts.{CountsTold}

-- an acceptance "returns m", and the bytes tell how often each two fragments disagree
pub record ConflictCountsSay (n : ℕ) (table counts : List ℕ) (verdict : Verdict) : Type 0 where
  pub returned : (count : ℕ) → verdict ≡ accepted count → count ≡ fragments table
  pub told : (count : ℕ) → verdict ≡ accepted count → CountsTold (grid_of n table) counts
