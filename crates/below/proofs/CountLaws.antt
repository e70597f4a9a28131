-- Counts of the numbers below a bound that pass a test: over 0 where one passes, part by part, and under a bound in the test.
-- Assumes nothing.
use mathlib.Core.Path.{◌≡◌, ap, ap₂, ◌∙◌}
use mathlib.Core.Bool.{Bool, true, false}
use mathlib.Core.Logic.{inl, inr}
use Prim.Native.Nat.{ℕ, zero, suc, ◌+◌, ◌-◌, ◌≤◌, ◌<◌}
use native.Mathlib.Nat.{add-zero, add-suc, add_assoc}
use native.Mathlib.Decide.{dec_lt}
use native.Mathlib.Omega.{arith}
use lib.Dec.{T}
use Rattle.below.specs.Below.{bit, ◌<?◌, ◌and◌, ◌or◌, any_below, sum_below, count_below}
use Rattle.below.proofs.BelowLaws.{same_test, or_left, or_right, or_cases, <?-lt, lt-<?, count-ext, sum-zero}
use Rattle.below.proofs.SearchLaws.{<?-true, <?-false}

-- a sum is over 0 where a part is
pub sum-pos : (a b : ℕ) → (0 <? a + b) ≡ (0 <? a or 0 <? b)
sum-pos a b = same_test _ _ there back
  where
    there : T (0 <? a + b) → T (0 <? a or 0 <? b)
    there t =
        let h = <?-lt 0 (a + b) t in
        elim (dec_lt 0 a) [ yes l ↦ or_left _ _ (lt-<? 0 a l) | no l ↦ or_right _ _ (lt-<? 0 b (omega arith)) ]

    back : T (0 <? a or 0 <? b) → T (0 <? a + b)
    back t = elim (or_cases _ _ t) [ inl s ↦ let h = <?-lt 0 a s in lt-<? 0 (a + b) (omega arith) | inr s ↦ let h = <?-lt 0 b s in lt-<? 0 (a + b) (omega arith) ]

pub bit-pos : (b : Bool) → (0 <? bit b) ≡ b
bit-pos true = <?-true 0 1 (omega arith)
bit-pos false = <?-false 0 0 (omega arith)

-- a count is over 0 where a number passes
pub count-any : (n : ℕ) (p : ℕ → Bool) → (0 <? count_below n p) ≡ any_below n p
unfolding count_below sum_below any_below
count-any zero p = <?-false 0 0 (omega arith)
count-any (suc n) p = sum-pos (count_below n p) (bit (p n)) ∙ ap₂ ◌or◌ (count-any n p) (bit-pos (p n))

pub none-counted : (n : ℕ) (p : ℕ → Bool) → ((i : ℕ) → i < n → p i ≡ false) → count_below n p ≡ 0
unfolding count_below
none-counted n p h = count-ext n p (λ i. false) h ∙ sum-zero n

-- the count of a first part, and of the rest
pub count_add : (a b : ℕ) (p : ℕ → Bool) → count_below (a + b) p ≡ count_below a p + count_below b (λ k. p (a + k))
unfolding count_below sum_below
count_add a zero p = rw add-zero (omega arith)
count_add a (suc b) p = rw add-suc (ap (λ (x : ℕ). x + bit (p (a + b))) (count_add a b p) ∙ add_assoc (count_below a p) _ _)

-- a bound in the test, and a bound of the count
pub count-within : (n w : ℕ) (p : ℕ → Bool) → n ≤ w → count_below w (λ c. c <? n and p c) ≡ count_below n p
unfolding ◌and◌
count-within n w p h =
    let q : ℕ → Bool = λ c. c <? n and p c in
    ap (λ (x : ℕ). count_below x q) (let e : w ≡ n + (w - n) = omega arith in e)
    ∙ count_add n (w - n) q
    ∙ ap₂ ◌+◌ (count-ext n q p (λ c l. rw (<?-true c n l))) (none-counted (w - n) (λ k. q (n + k)) (λ k l. rw (<?-false (n + k) n (omega arith))))
    ∙ add-zero (count_below n p)
