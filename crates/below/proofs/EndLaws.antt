-- The lowest number that passes a test, and the end of those that pass: part by part, and under a bound in the test.
-- Assumes nothing.
use Rattle.std.specs.Prelude.{if◌then◌else◌}
use mathlib.Core.Path.{◌≡◌, refl, sym, ap, ap₂, ◌∙◌}
use mathlib.Core.Bool.{Bool, true, false}
use Prim.Native.Nat.{ℕ, zero, suc, ◌+◌, ◌-◌, ◌≤◌, ◌<◌}
use native.Mathlib.Nat.{add-zero, add-suc}
use native.Mathlib.Decide.{dec_lt}
use native.Mathlib.Omega.{arith}
use Rattle.below.specs.Below.{◌<?◌, ◌and◌, first_below, end_below}
use Rattle.below.proofs.BelowLaws.{first_below-le, first_below-at, first_below-least}
use Rattle.below.proofs.SearchLaws.{T_true, T_false, <?-true, <?-false, NoneBelow, first-hit, first-none}

-- ---- the lowest

pub first-clear : (n : ℕ) (p : ℕ → Bool) → NoneBelow (first_below n p) p
first-clear n p =
    let le = first_below-le n p in
    record { none_passes = λ k h. T_false (p k) (λ t. let low = first_below-least n p k (omega arith) t in absurd (omega arith)) }

pub is-first : (n : ℕ) (p : ℕ → Bool) (i : ℕ) → i ≤ n → NoneBelow i p → (i < n → p i ≡ true) → i ≡ first_below n p
is-first n p i h none at = elim (dec_lt i n) [
  | yes l ↦ sym (first-hit n p i l none (at l))
  | no l ↦ let e = first-none n p i (omega arith) none in omega arith
]

-- in a first part, or in the rest
module _ (a b : ℕ) (p : ℕ → Bool) where
  pub first-low : first_below a p < a → first_below a p ≡ first_below (a + b) p
  first-low h = is-first (a + b) p _ (omega arith) (first-clear a p) (λ l. T_true _ (first_below-at a p h))

  pub first-high : a ≤ first_below a p → a + first_below b (λ k. p (a + k)) ≡ first_below (a + b) p
  first-high h =
      let q : ℕ → Bool = λ k. p (a + k) in
      let le = first_below-le b q in
      is-first (a + b) p _ (omega arith)
      (record {
        none_passes = λ k l. elim (dec_lt k a) [
          | yes g ↦ (first-clear a p).none_passes k (omega arith)
          | no g ↦ ap p (let e : k ≡ a + (k - a) = omega arith in e) ∙ (first-clear b q).none_passes (k - a) (omega arith)
        ];
      })
      (λ l. T_true _ (first_below-at b q (omega arith)))

-- ---- the end

pub end-ext : (n : ℕ) (p q : ℕ → Bool) → ((i : ℕ) → i < n → p i ≡ q i) → end_below n p ≡ end_below n q
unfolding end_below
end-ext zero p q h = refl
end-ext (suc n) p q h = ap₂ (λ (b : Bool) (x : ℕ). if b then suc n else x) (h n (omega arith)) (end-ext n p q (λ i l. h i (omega arith)))

-- the end of a first part where the rest has none, and else that of the rest
abbrev end_over : ℕ → ℕ → ℕ → ℕ
end_over a first zero = first
end_over a first (suc rest) = a + suc rest

end-split : (a b : ℕ) (p : ℕ → Bool) → end_below (a + b) p ≡ end_over a (end_below a p) (end_below b (λ k. p (a + k)))
unfolding end_below
end-split a zero p = rw add-zero
end-split a (suc b) p = rw add-suc (more (p (a + b)) _ (end-split a b p))
  where
    more : (t : Bool) {x : ℕ} (rest : ℕ) → x ≡ end_over a (end_below a p) rest → (if t then suc (a + b) else x) ≡ end_over a (end_below a p) (if t then suc b else rest)
    more true rest e = omega arith
    more false rest e = e

-- in the rest, or in a first part
module _ (a b : ℕ) (p : ℕ → Bool) where
  pub end-high : 0 < end_below b (λ k. p (a + k)) → a + end_below b (λ k. p (a + k)) ≡ end_below (a + b) p
  end-high h = some _ h ∙ sym (end-split a b p)
    where
      some : (rest : ℕ) → 0 < rest → a + rest ≡ end_over a (end_below a p) rest
      some zero h = absurd (omega arith)
      some (suc rest) h = refl

  pub end_low : end_below b (λ k. p (a + k)) ≡ 0 → end_below a p ≡ end_below (a + b) p
  end_low e = sym (end-split a b p ∙ ap (end_over a (end_below a p)) e)

end-false : (n : ℕ) → end_below n (λ i. false) ≡ 0
unfolding end_below
end-false zero = refl
end-false (suc n) = end-false n

-- a bound in the test, and a bound of the numbers
pub end-within : (n w : ℕ) (p : ℕ → Bool) → n ≤ w → end_below w (λ c. c <? n and p c) ≡ end_below n p
unfolding ◌and◌
end-within n w p h =
    let q : ℕ → Bool = λ c. c <? n and p c in
    let none = end-ext (w - n) (λ k. q (n + k)) (λ k. false) (λ k l. rw (<?-false (n + k) n (omega arith))) ∙ end-false (w - n) in
    ap (λ (x : ℕ). end_below x q) (let e : w ≡ n + (w - n) = omega arith in e) ∙ sym (end_low n (w - n) q none) ∙ end-ext n q p (λ c l. rw (<?-true c n l))
