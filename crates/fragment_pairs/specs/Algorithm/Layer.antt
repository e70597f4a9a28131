-- What one fragment makes of the weights at every pair of states (paper 001, section 5.2).
-- Assumes nothing.
use Rattle.std.specs.Prelude.{ℕ, ◌+◌, max, Bool, if◌then◌else◌}
use Rattle.below.specs.Below.{◌<?◌, nth}
use Rattle.conflicts.specs.Choice.{marked}
use Rattle.ranks.specs.Algorithm.Reading.{value}
use Rattle.fragment_pairs.specs.declared.fragment.Fragment.{Fragment}

-- the state of a side once the fragment at position i has joined it
abbrev pub furthest : (ℕ → ℕ) → ℕ → ℕ → ℕ
furthest reaches s i = if reaches s <? reaches (i + 1) then i + 1 else s

-- kept on side 1 if it may join it, on side 2, or removed: whichever weighs most
abbrev pub keep_fragment : Bool → Bool → ℕ → ℕ → ℕ → ℕ
keep_fragment first second one two rest =
    let w = if second then max rest two else rest in
    if first then max w one else w

-- what the fragment at position i, which weighs `own`, makes of the weights of those after it that are kept, at states h and l
abbrev pub with_fragment_in : (ℕ → Bool) → (ℕ → ℕ) → ℕ → ℕ → (ℕ → ℕ → ℕ) → ℕ → ℕ → ℕ
with_fragment_in may reaches own i v h l = keep_fragment (may h) (may l) (own + v (furthest reaches h i) l) (own + v h (furthest reaches l i)) (v h l)

-- the same by the fragment's lists
abbrev pub with_fragment : Fragment → (ℕ → ℕ → ℕ) → ℕ → ℕ → ℕ
with_fragment f = with_fragment_in (marked f.agrees.now) (nth f.reaches.now) (value f.own) f.i
