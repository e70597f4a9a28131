-- `conflicts::Tally::empty` meets its contract.
-- Assumes nothing.
use mathlib.Core.Path.{refl}
use Rattle.conflicts.proofs.Tally.empty.Goals as goal

pub returns : goal.returns
returns c = refl
