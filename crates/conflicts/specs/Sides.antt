-- Sides: classes of fragments with no conflict inside a class (paper 01, "What the words mean"). Over any number of classes k; paper 01 has two.
-- Assumes nothing.
use Rattle.std.specs.Prelude.{ℕ, suc, Bool, List, [], ◌∷◌, map, get_or, if◌then◌else◌}
use Rattle.below.specs.Below.{◌=?◌, ◌<?◌, ◌and◌, isnt, all_below, tab}
use Rattle.conflicts.specs.Choice.{choices, some, first, marked}
use Rattle.conflicts.specs.Grid.{Grid, conflict_on_kept}

-- "every kept fragment is on side 1 or 2", a removed one on side 0: the sides that a fragment can have by its keep mark
unfoldable pub sides_of : ℕ → ℕ → List ℕ
sides_of k mark = if 0 <? mark then tab k suc else 0 ∷ []

-- every side list of the kept fragments; "at the first fragment where two differ, side 1 comes first"
unfoldable pub side_lists : ℕ → List ℕ → List (List ℕ)
side_lists k keep_frags = choices (map (sides_of k) keep_frags)

-- two fragments are kept and on one side
unfoldable pub same_side : List ℕ → ℕ → ℕ → Bool
same_side sides i j = marked sides i and get_or sides i 0 =? get_or sides j 0

-- "lawful means no conflict inside a side on kept columns"
unfoldable pub lawful : Grid → List ℕ → List ℕ → Bool
lawful g keep_cols sides = all_below g.m (λ i. all_below g.m (λ j. isnt (same_side sides i j and conflict_on_kept g keep_cols i j)))

-- "error-free": the kept fragments "can be put in two classes with no conflict inside a class" on a kept column
unfoldable pub error_free : ℕ → Grid → List ℕ → List ℕ → Bool
error_free k g keep_cols keep_frags = some (lawful g keep_cols) (side_lists k keep_frags)

-- the "first lawful side list"
unfoldable pub first_sides_of : ℕ → Grid → List ℕ → List ℕ → List ℕ
first_sides_of k g keep_cols keep_frags = first (lawful g keep_cols) (side_lists k keep_frags) []
