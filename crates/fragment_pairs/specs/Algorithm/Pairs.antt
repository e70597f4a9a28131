-- The table of weights over pairs of states, each pair once, and loops that go through it in place.
-- Assumes nothing.
use Rattle.std.specs.Prelude.{◌≡◌, List, ℕ, ◌+◌, ◌*◌, ◌-◌, ◌/◌, ◌≤◌, ◌<◌, min, max}
use Rattle.below.specs.Below.{nth}
use Rattle.ranks.specs.declared.rank.Rank.{Rank}
use Rattle.ranks.specs.Algorithm.Weight.{top, AtMost}
use Rattle.ranks.specs.Algorithm.Reading.{code}

-- where the row of state h begins: the rows before it have 1, …, h places
unfoldable pub row_start_of : ℕ → ℕ
row_start_of h = h * (h + 1) / 2

-- the place of a pair of states, whichever side is at which: in the row of the later one
unfoldable pub corner : ℕ → ℕ → ℕ
corner h l = row_start_of (max h l) + min h l

-- the weight at states h and l
abbrev pub pairs : List ℕ → ℕ → ℕ → ℕ
pairs table h l = nth table (corner h l)

-- weights over pairs of states, by their places in the row of state h
abbrev pub along : (ℕ → ℕ → ℕ) → ℕ → ℕ → ℕ
along f h j = f h (j - row_start_of h)

-- weights that have room for the fragment's own; `far` has it
pub record Fits (own : Rank) (far one rest : ℕ) : Type 0 where
  pub others : ℕ
  pub few : own.count ≤ 1
  pub fits : code own + others < top
  pub far_small : AtMost 128 (code own + others) far
  pub one_small : AtMost 127 others one
  pub rest_small : AtMost 127 others rest

-- the weights at the states from h up to n, and at those of the other side from d up to n, have room for the fragment's own
pub record FragmentRoom (own : Rank) (d h n : ℕ) (v : ℕ → ℕ → ℕ) : Type 0 where
  pub others : ℕ
  pub few : own.count ≤ 1
  pub fits : code own + others < top
  pub small : (s q : ℕ) → h ≤ s → s ≤ n → d ≤ q → q ≤ n → AtMost 127 others (v s q)

-- from state d on, the rows before that of state h hold what f says, and the places from there on what they held
pub record Rows (f : ℕ → ℕ → ℕ) (old now : ℕ → ℕ) (d h : ℕ) : Type 0 where
  pub done : (s q : ℕ) → d ≤ q → q ≤ s → s < h → now (row_start_of s + q) ≡ f s q
  pub rest : (j : ℕ) → row_start_of h ≤ j → now j ≡ old j

-- the pairs of the states from d on and before n hold what f says
pub record Made (f now : ℕ → ℕ → ℕ) (d n : ℕ) : Type 0 where
  pub made : (h l : ℕ) → d ≤ h → d ≤ l → h < n → l < n → now h l ≡ f h l

-- state s has the weights of the next state, with the later states before h; the pairs of later states hold what they held
pub record Born (old now : ℕ → ℕ) (s h : ℕ) : Type 0 where
  pub done : (x : ℕ) → s < x → x < h → now (row_start_of x + s) ≡ old (row_start_of x + (s + 1))
  pub rest : (x y : ℕ) → s < y → y ≤ x → now (row_start_of x + y) ≡ old (row_start_of x + y)

-- the pairs of the states from s up to n hold what those from d on held, state d in place of each before it
pub record Copied (old now : ℕ → ℕ → ℕ) (s d n : ℕ) : Type 0 where
  pub copied : (h l : ℕ) → s ≤ h → s ≤ l → h ≤ n → l ≤ n → now h l ≡ old (max h d) (max l d)
