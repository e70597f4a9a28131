-- The tally of a column: its counts, and that it says mixed exactly where the column is.
-- Assumes nothing.
use Rattle.std.specs.Prelude.{if◌then◌else◌}
use mathlib.Core.Path.{◌≡◌, refl, ap₂}
use mathlib.Core.Bool.{Bool, true, false}
use Prim.Native.Nat.{ℕ, zero, suc, ◌+◌, ◌≤◌, ◌<◌}
use native.Mathlib.Omega.{arith}
use borrow.Author.Tests.{lt-ltb}
use Rattle.below.specs.Below.{bit, ◌=?◌, ◌<?◌, ◌and◌, ◌or◌, any_below, sum_below, count_below}
use Rattle.below.proofs.BelowLaws.{if-ind, isnt-<?, count-bound}
use Rattle.conflicts.specs.Grid.{Grid, mixed}
use Rattle.conflicts.specs.Tally.{one_more_of, tallied, mixed_tally, tally_of}

-- one more is over 0
more-any : (x : ℕ) → (0 <? one_more_of x) ≡ true
unfolding one_more_of ◌<?◌
more-any x = if-ind (λ y. (0 <? y) ≡ true) (x <? 4294967295) (λ t. lt-ltb 0 (x + 1) (omega arith)) (λ t. lt-ltb 0 x (let h = isnt-<? x 4294967295 t in omega arith))

-- a count is over 0 exactly where its letter was there or comes
count-any : (b : Bool) (x : ℕ) (seen : Bool) → (0 <? x) ≡ seen → (0 <? (if b then one_more_of x else x)) ≡ (seen or b)
unfolding ◌or◌
count-any true x true e = more-any x
count-any true x false e = more-any x
count-any false x true e = e
count-any false x false e = e

module _ (g : Grid) (c : ℕ) where
  any-a : (k : ℕ) → (0 <? (tally_of g c k).a) ≡ any_below k (λ i. g.cell i c =? 1)
  unfolding tally_of tallied any_below ◌<?◌
  any-a zero = refl
  any-a (suc k) = count-any (g.cell k c =? 1) (tally_of g c k).a _ (any-a k)

  any-b : (k : ℕ) → (0 <? (tally_of g c k).b) ≡ any_below k (λ i. g.cell i c =? 2)
  unfolding tally_of tallied any_below ◌<?◌
  any-b zero = refl
  any-b (suc k) = count-any (g.cell k c =? 2) (tally_of g c k).b _ (any-b k)

  -- the tally of a whole column says mixed exactly where the column is mixed
  pub tally-mixed : mixed_tally (tally_of g c g.m) ≡ mixed g c
  unfolding mixed_tally mixed
  tally-mixed = ap₂ ◌and◌ (any-a g.m) (any-b g.m)

-- up to its last number a count says how often the letter occurs
counted : (b : Bool) (x y : ℕ) → x ≡ y → y < 4294967295 → (if b then one_more_of x else x) ≡ y + bit b
unfolding one_more_of ◌<?◌
counted true x y e h = rw (lt-ltb x 4294967295 (omega arith)) (omega arith)
counted false x y e h = omega arith

module _ (g : Grid) (c : ℕ) where
  pub tally-a : (k : ℕ) → k ≤ 4294967295 → (tally_of g c k).a ≡ count_below k (λ i. g.cell i c =? 1)
  unfolding tally_of tallied count_below sum_below
  tally-a zero h = refl
  tally-a (suc k) h =
      counted (g.cell k c =? 1) (tally_of g c k).a (count_below k (λ i. g.cell i c =? 1)) (tally-a k (omega arith)) (omega (arith, count-bound k (λ i. g.cell i c =? 1)))

  pub tally-b : (k : ℕ) → k ≤ 4294967295 → (tally_of g c k).b ≡ count_below k (λ i. g.cell i c =? 2)
  unfolding tally_of tallied count_below sum_below
  tally-b zero h = refl
  tally-b (suc k) h =
      counted (g.cell k c =? 2) (tally_of g c k).b (count_below k (λ i. g.cell i c =? 2)) (tally-b k (omega arith)) (omega (arith, count-bound k (λ i. g.cell i c =? 2)))
