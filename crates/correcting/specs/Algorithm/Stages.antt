-- What C knows once all of its rules but 12 are kept.
-- Assumes nothing.
use Rattle.std.specs.Prelude.{◌≡◌, List, ℕ}
use Rattle.below.specs.Below.{concat}
use Rattle.fields.specs.Table.{fragments}
use Rattle.records.specs.Rules.{decide}
use Rattle.records.specs.Outcome.{accepted}
use Rattle.conflicts.specs.Services.{correction_stages}

-- every rule of C but 12 is kept by a table of m fragments
pub record CorrectionKept (n m : ℕ) (table answer output work : List ℕ) : Type 0 where
  pub kept : decide (concat (correction_stages n table answer output work)) (accepted (fragments table)) ≡ accepted m
