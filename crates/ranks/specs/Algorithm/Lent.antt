-- What a clause says of a table whose three arrays are lent to it: its weights, and which arrays they are.
-- Assumes nothing.
use Rattle.std.specs.Prelude.{◌≡◌, List, ℕ}
use Rattle.std.specs.Borrow.{MutBor}
use Rattle.ranks.specs.declared.table.Ranks.{Ranks}
use Rattle.ranks.specs.Algorithm.Tables.{weights_of}

-- its weights, place by place
abbrev pub weights_in : {n : ℕ} → Ranks n → List ℕ
weights_in t = weights_of t.counts.now t.highs.now t.lows.now

-- it is a table in these arrays: they hold its weights when it is gone
pub record InArrays {n : ℕ} (counts highs lows : MutBor (List ℕ)) (t : Ranks n) : Type 0 where
  pub same_counts : t.counts.ghost_name ≡ counts.ghost_name
  pub same_highs : t.highs.ghost_name ≡ highs.ghost_name
  pub same_lows : t.lows.ghost_name ≡ lows.ghost_name

-- it stays in the arrays in which it was
abbrev pub SameArrays : {n : ℕ} → Ranks n → Ranks n → Type 0
SameArrays old new = InArrays old.counts old.highs old.lows new
