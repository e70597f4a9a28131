-- What a search for lawful sides leaves.
-- Assumes nothing.
use Rattle.std.specs.Prelude.{◌≡◌, Bool, true, List, ℕ}
use Rattle.below.specs.Below.{tab}
use Rattle.conflicts.specs.Grid.{Grid}
use Rattle.conflicts.specs.Sides.{error_free, first_sides_of}
use Rattle.conflicts.specs.Blocks.{block}

-- the verdict is "error-free"; on a yes the "first lawful side list", and the blocks of the kept fragments, 255 for a removed one
pub record SidesFound (g : Grid) (keep_cols keep_frags : List ℕ) (ok : Bool) (sides blocks : List ℕ) : Type 0 where
  pub verdict : ok ≡ error_free 2 g keep_cols keep_frags
  pub sides_are : ok ≡ true → sides ≡ first_sides_of 2 g keep_cols keep_frags
  pub blocks_are : ok ≡ true → blocks ≡ tab g.m (block g keep_cols keep_frags)
