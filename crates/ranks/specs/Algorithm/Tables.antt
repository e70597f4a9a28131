-- Tables of weights in three parallel lists, and loops that go through a table in place.
-- Assumes nothing.
use Rattle.std.specs.Prelude.{◌≡◌, List, ℕ, ◌+◌, ◌*◌, ◌^◌, ◌≤◌, ◌<◌, length, get_or, set}
use Rattle.ranks.specs.declared.rank.Rank.{Rank}
use Rattle.ranks.specs.Algorithm.Weight.{top}
use Rattle.below.specs.Below.{tab}

-- the weight at place j
abbrev pub at : List ℕ → List ℕ → List ℕ → ℕ → ℕ
at counts highs lows j = get_or counts j 0 * top + (get_or highs j 0 * 2 ^ 64 + get_or lows j 0)

-- the weights of a table, place by place
unfoldable pub weights_of : List ℕ → List ℕ → List ℕ → List ℕ
weights_of counts highs lows = tab (length counts) (at counts highs lows)

-- the lists have n places each, and so few that their bytes can be counted
pub record Parallel (n : ℕ) (counts highs lows : List ℕ) : Type 0 where
  pub counts_size : length counts ≡ n
  pub highs_size : length highs ≡ n
  pub lows_size : length lows ≡ n
  pub few : n < 2 ^ 32

-- the lists have n places each, or more
pub record Long (n : ℕ) (counts highs lows : List ℕ) : Type 0 where
  pub counts_long : n ≤ length counts
  pub highs_long : n ≤ length highs
  pub lows_long : n ≤ length lows

-- place j is one of the table's
pub record Inside (counts highs lows : List ℕ) (j : ℕ) : Type 0 where
  pub in_counts : j < length counts
  pub in_highs : j < length highs
  pub in_lows : j < length lows

-- the table after a weight is put at place j
pub record Stored (counts highs lows counts' highs' lows' : List ℕ) (j : ℕ) (r : Rank) : Type 0 where
  pub counts_are : counts' ≡ set counts j r.count
  pub highs_are : highs' ≡ set highs j r.high
  pub lows_are : lows' ≡ set lows j r.low

-- one place of a table has the value v, and the others are as they were
pub record Put (old new : ℕ → ℕ) (j v : ℕ) : Type 0 where
  pub here : new j ≡ v
  pub there : (i : ℕ) → (i ≡ j → ⊥) → new i ≡ old i

-- the places from a up to j hold what f says, and the others what they held
pub record Sweep (f old now : ℕ → ℕ) (a j : ℕ) : Type 0 where
  pub done : (i : ℕ) → a ≤ i → i < j → now i ≡ f i
  pub rest : (i : ℕ) → (a ≤ i → i < j → ⊥) → now i ≡ old i
