-- The number of kept columns on which two fragments conflict, against whether there is one. By itself, so that a wrong definition under which this holds too is refused by other laws alone.
-- Assumes nothing.
use mathlib.Core.Path.{◌≡◌}
use mathlib.Core.List.{List}
use Prim.Native.Nat.{ℕ}
use Rattle.below.specs.Below.{◌<?◌}
use Rattle.below.proofs.CountLaws.{count-any}
use Rattle.conflicts.specs.Grid.{Grid, conflict_on_kept}
use Rattle.conflicts.specs.Counts.{conflict_count_of}

-- two fragments conflict on a kept column exactly if the number of these is over 0
pub kept-counted : (g : Grid) (keep_cols : List ℕ) (i j : ℕ) → (0 <? conflict_count_of g keep_cols i j) ≡ conflict_on_kept g keep_cols i j
unfolding conflict_count_of conflict_on_kept
kept-counted g keep_cols i j = count-any g.n _
