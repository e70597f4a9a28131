-- The least weight of the fragments removed, and the greatest of those kept, by recursion on how many of the last fragments are weighed (paper 001, section 5.2).
-- Assumes nothing.
use Rattle.std.specs.Prelude.{ℕ, zero, suc, ◌+◌, ◌-◌, min, Bool, if◌then◌else◌}
use Rattle.conflicts.specs.Grid.{Grid}
use Rattle.ranks.specs.Algorithm.Weight.{removal}
use Rattle.fragment_states.specs.Algorithm.Fragments.{state_reach_of, can_join}
use Rattle.fragment_pairs.specs.Algorithm.Layer.{furthest, with_fragment_in}

-- removed, on side 1 if it may join it, or on side 2: whichever weighs least
abbrev pub choose_fragment : Bool → Bool → ℕ → ℕ → ℕ → ℕ → ℕ
choose_fragment first second out one two rest =
    let w = if second then min (out + rest) two else out + rest in
    if first then min w one else w

-- the least weight of the last k fragments that are removed, at states h and l of sides 1 and 2
unfoldable pub least_fragment_weight : Grid → ℕ → ℕ → ℕ → ℕ
least_fragment_weight g zero h l = 0
least_fragment_weight g (suc k) h l =
    let i = g.m - suc k in
    let v = least_fragment_weight g k in
    choose_fragment (can_join g h i) (can_join g l i) (removal i) (v (furthest (state_reach_of g) h i) l) (v h (furthest (state_reach_of g) l i)) (v h l)

-- the greatest weight of the last k fragments that are kept, at states h and l: what is removed and what is kept weigh all together
unfoldable pub most_kept : Grid → ℕ → ℕ → ℕ → ℕ
most_kept g zero h l = 0
most_kept g (suc k) h l =
    let i = g.m - suc k in
    with_fragment_in (λ s. can_join g s i) (state_reach_of g) (removal i) i (most_kept g k) h l
