-- A list made anew in place from the front.
-- Assumes nothing.
use mathlib.Core.Path.{◌≡◌, ◌∙◌}
use mathlib.Core.List.{List}
use Prim.Native.Nat.{ℕ, ◌+◌, ◌<◌, ◌≤◌}
use native.Mathlib.Omega.{arith}
use borrow.Author.Count.{below_more}
use lib.ListN.{length, set, length-set}
use lib.Seq.{get_or-set_same, get_or-set_other}
use Rattle.below.specs.Below.{nth}

-- the places before k hold what f says, the others what they held
pub record Remade (f : ℕ → ℕ) (old now : List ℕ) (k : ℕ) : Type 0 where
  pub sized : length now ≡ length old
  pub done : (i : ℕ) → i < k → nth now i ≡ f i
  pub rest : (i : ℕ) → k ≤ i → nth now i ≡ nth old i

pub sweep-set : {f : ℕ → ℕ} {old : List ℕ} (xs : List ℕ) (k v : ℕ) → Remade f old xs k → k < length xs → v ≡ f k → Remade f old (set xs k v) (k + 1)
sweep-set {f} xs k v s lt e = record {
  sized = simp length-set s.sized;
  done = below_more (λ i. nth (set xs k v) i ≡ f i) k (λ i h. get_or-set_other xs k i v 0 (λ q. omega arith) ∙ s.done i h) (get_or-set_same xs k v 0 lt ∙ e);
  rest = λ i h. get_or-set_other xs k i v 0 (λ q. omega arith) ∙ s.rest i (omega arith);
}
