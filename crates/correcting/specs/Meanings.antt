-- What C promises of its outcome, in the terms of papers 01 and 001.
-- Assumes nothing.
use Rattle.std.specs.Prelude.{◌≡◌, List, ℕ}
use Rattle.records.specs.Outcome.{Verdict, accepted}
use Rattle.conflicts.specs.Minimality.{Corrected}

-- C's number, answer and table: every set of calls that works has at least as many; the cells that differ work, are exactly that many, and no other bit differs; the side list is the first
pub record CorrectionSays (n : ℕ) (given answer table : List ℕ) (verdict : Verdict) : Type 0 where
  pub least : (count : ℕ) → verdict ≡ accepted count → Corrected n given answer table count
