-- What phasing leaves in an answer.
-- Assumes nothing.
use Rattle.std.specs.Prelude.{◌≡◌, Bool, List, ℕ, ◌≤◌, length, if◌then◌else◌}
use Rattle.conflicts.specs.Grid.{Grid}
use Rattle.conflicts.specs.Sides.{error_free, first_sides_of}
use Rattle.conflicts.specs.Answer.{answer}

-- the verdict is "error-free"; on a yes the answer is that of the "first lawful side list", on a no it is untouched
pub record AnswerFound (g : Grid) (keep_cols keep_frags : List ℕ) (ok : Bool) (before after : List ℕ) : Type 0 where
  pub verdict : ok ≡ error_free 2 g keep_cols keep_frags
  pub written : after ≡ (if ok then answer g keep_cols (first_sides_of 2 g keep_cols keep_frags) else before)

-- at most 128 fragments and columns, and a mark for each
pub record Marked (m n : ℕ) (keep_cols keep_frags : List ℕ) : Type 0 where
  pub few : m ≤ 128
  pub narrow : n ≤ 128
  pub columns : length keep_cols ≡ n
  pub fragments : length keep_frags ≡ m
