-- The derived order of weights, which compares their parts in turn, is that of the numbers.
-- Assumes nothing.
use Rattle.std.specs.declared.cmp.Ordering.{Ordering}
use Rattle.std.specs.declared.cmp.Ordering.TheVariants.{Less, Equal, Greater}
use Rattle.std.specs.Ordering.{MatchOrdering, ordering_then, nat_cmp, ord_min, ord_max, is_lt}
use Rattle.std.specs.Cmp.{ranks, nat_cmp_is}
use Rattle.std.specs.Prelude.{cond, min, max}
use mathlib.Core.Path.{◌≡◌, sym, ap}
use Prim.Native.Nat.{ℕ, ◌*◌, ◌^◌, ◌<◌}
use native.Mathlib.Nat.{le_of_lt, min-eq_left, min-eq_right}
use native.Mathlib.Omega.{arith}
use Rattle.ranks.specs.declared.rank.Rank.{Rank}
use Rattle.ranks.specs.Algorithm.Weight.{top}
use Rattle.ranks.specs.Algorithm.Reading.{code, value}
use Rattle.ranks.proofs.WordLaws.{fewer, code-top, higher}

-- the parts in turn
abbrev pub rank_cmp : Rank → Rank → Ordering
rank_cmp a b = ordering_then (nat_cmp a.count b.count) (ordering_then (nat_cmp a.high b.high) (nat_cmp a.low b.low))

-- what an answer says of two numbers
abbrev Says : Ordering → ℕ → ℕ → Type 0
Says r x y = MatchOrdering r (x < y) (x ≡ y) (y < x)

-- a part decides, or those after it
level : (r s : Ordering) (x y v w : ℕ) → Says r x y → (x < y → v < w) → (x ≡ y → Says s v w) → (y < x → w < v) → Says (ordering_then r s) v w
level Less s x y v w m below equal above = below m
level Equal s x y v w m below equal above = equal m
level Greater s x y v w m below equal above = above m

-- the last part decides
last : (r : Ordering) (x y v w : ℕ) → Says r x y → (x < y → v < w) → (x ≡ y → v ≡ w) → (y < x → w < v) → Says r v w
last Less x y v w m below equal above = below m
last Equal x y v w m below equal above = equal m
last Greater x y v w m below equal above = above m

same_cost : {c d : ℕ} → c ≡ d → c * top ≡ d * top
same_cost e = ap (λ (x : ℕ). x * top) e

pub rank_cmp-value : (a b : Rank) → a.high < 2 ^ 64 → a.low < 2 ^ 64 → b.high < 2 ^ 64 → b.low < 2 ^ 64 → rank_cmp a b ≡ nat_cmp (value a) (value b)
rank_cmp-value a b ah al bh bl =
    let v = value a in
    let w = value b in
    nat_cmp_is v w (rank_cmp a b) (level (nat_cmp a.count b.count) _ a.count b.count v w (ranks a.count b.count)
    (fewer a.count b.count (code a) (code b) (code-top ah al))
    (λ c. level (nat_cmp a.high b.high) _ a.high b.high v w (ranks a.high b.high)
    (λ h. omega (arith, same_cost c, higher a.high b.high a.low b.low al h))
    (λ h. last (nat_cmp a.low b.low) a.low b.low v w (ranks a.low b.low) (λ l. omega (arith, same_cost c)) (λ l. omega (arith, same_cost c)) (λ l. omega (arith, same_cost c)))
    (λ h. omega (arith, same_cost c, higher b.high a.high b.low a.low bl h)))
    (fewer b.count a.count (code b) (code a) (code-top bh bl)))

lesser_of : (r : Ordering) (a b : Rank) → Says r (value b) (value a) → value (cond (is_lt r) b a) ≡ min (value a) (value b)
lesser_of Less a b m = sym (min-eq_right (le_of_lt m))
lesser_of Equal a b m = sym (min-eq_left (omega arith))
lesser_of Greater a b m = sym (min-eq_left (le_of_lt m))

greater_of : (r : Ordering) (a b : Rank) → Says r (value b) (value a) → value (cond (is_lt r) a b) ≡ max (value a) (value b)
greater_of Less a b m = omega arith
greater_of Equal a b m = omega arith
greater_of Greater a b m = omega arith

pub min-value : (a b : Rank) → a.high < 2 ^ 64 → a.low < 2 ^ 64 → b.high < 2 ^ 64 → b.low < 2 ^ 64 → value (ord_min rank_cmp a b) ≡ min (value a) (value b)
min-value a b ah al bh bl = rw (rank_cmp-value b a bh bl ah al) (lesser_of (nat_cmp (value b) (value a)) a b (ranks (value b) (value a)))

pub max-value : (a b : Rank) → a.high < 2 ^ 64 → a.low < 2 ^ 64 → b.high < 2 ^ 64 → b.low < 2 ^ 64 → value (ord_max rank_cmp a b) ≡ max (value a) (value b)
max-value a b ah al bh bl = rw (rank_cmp-value b a bh bl ah al) (greater_of (nat_cmp (value b) (value a)) a b (ranks (value b) (value a)))
