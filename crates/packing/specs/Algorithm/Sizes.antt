-- What pack knows once the sizes of its input are kept, and once its fragments are kept too.
-- Assumes nothing.
use Rattle.std.specs.Prelude.{◌≡◌, List, ℕ, ◌-◌, ◌<◌, length}
use Rattle.below.specs.Below.{tab, concat}
use Rattle.records.specs.Rules.{Rule, decide}
use Rattle.records.specs.Outcome.{accepted}
use Rattle.conflicts.specs.Services.{pack_size_rules, packed_start, fragment_rules}

-- rules 3, 1 and 2 are kept by cells, tags and grades that are to be packed
pub record PackSized (n : ℕ) (cells tags grades : List ℕ) : Type 0 where
  pub kept : decide (pack_size_rules n cells tags grades) (accepted (length tags)) ≡ accepted (length tags)

-- each fragment by 5, 6, 17, 4, 9 and 13
unfoldable pub fragments_rules : ℕ → List ℕ → List ℕ → List ℕ → List Rule
fragments_rules n cells tags grades = concat (tab (length tags) (fragment_rules n cells tags grades))

-- rules 5, 6, 17, 4, 9 and 13 are kept by each fragment
pub record FragmentsKept (n : ℕ) (cells tags grades : List ℕ) : Type 0 where
  pub kept : decide (fragments_rules n cells tags grades) (accepted (length tags)) ≡ accepted (length tags)

-- the starts that pack would write for fragment i and, where there is one, for the fragment before it
pub record Starts (n : ℕ) (cells : List ℕ) (i start last : ℕ) : Type 0 where
  pub here : start ≡ packed_start n cells i
  pub before : 0 < i → last ≡ packed_start n cells (i - 1)
