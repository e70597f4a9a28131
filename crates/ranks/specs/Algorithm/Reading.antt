-- A weight's number, from its count and its two words.
-- Assumes nothing.
use Rattle.std.specs.Prelude.{ℕ, ◌+◌, ◌*◌, ◌^◌, ◌<◌}
use Rattle.ranks.specs.declared.rank.Rank.{Rank}
use Rattle.ranks.specs.Algorithm.Weight.{top}

-- the sum of the places
abbrev pub code : Rank → ℕ
code r = r.high * 2 ^ 64 + r.low

-- the weight
abbrev pub value : Rank → ℕ
value r = r.count * top + code r

-- the sum of two weights has room in a count and two words
pub record SumFits (a b : Rank) : Type 0 where
  pub counts : a.count + b.count < 2 ^ 32
  pub codes : code a + code b < top
