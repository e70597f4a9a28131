-- What a loop that looks for the first number to pass a test knows: nothing below its counter passes.
-- Assumes nothing.
use mathlib.Core.Path.{◌≡◌, refl, sym}
use mathlib.Core.Logic.{◌⊎◌, inl, inr}
use mathlib.Core.Bool.{Bool, true, false}
use Prim.Native.Nat.{ℕ, ◌+◌, ◌≤◌, ◌<◌}
use native.Mathlib.Decide.{dec_le}
use native.Mathlib.Numerals.{add-one}
use native.Mathlib.Omega.{arith}
use lib.Dec.{T}
use Rattle.below.specs.Below.{any_below, first_below, Lowest, ◌=?◌, ◌<?◌, ◌≤?◌, ◌or◌, isnt}
use Rattle.below.proofs.BelowLaws.{passes, fails, is_true, is_false, isnt-T, T-isnt, any_below-of, any_below-at, first_below-le, first_below-at, first_below-least, =?-eq, =?-refl, <?-lt, lt-<?, ≤?-le, le-≤?}

-- ---- a test as an equation

pub true-T : {b : Bool} → b ≡ true → T b
true-T e = passes refl e

pub T_true : (b : Bool) → T b → b ≡ true
T_true b t = sym (is_true b t)

pub T_false : (b : Bool) → (T b → ⊥) → b ≡ false
T_false b f = sym (is_false b (isnt-T b f))

pub false-T : {b : Bool} → b ≡ false → T b → ⊥
false-T {b} e t = T-isnt b (fails refl e) t

pub =?-true : (a b : ℕ) → a ≡ b → (a =? b) ≡ true
=?-true a b e = T_true (a =? b) (rw e (=?-refl b))

pub =?-false : (a b : ℕ) → (a ≡ b → ⊥) → (a =? b) ≡ false
=?-false a b f = T_false (a =? b) (λ t. f (=?-eq a b t))

pub <?-true : (a b : ℕ) → a < b → (a <? b) ≡ true
<?-true a b h = T_true (a <? b) (lt-<? a b h)

pub <?-false : (a b : ℕ) → b ≤ a → (a <? b) ≡ false
<?-false a b h = T_false (a <? b) (λ t. let g = <?-lt a b t in absurd (omega arith))

pub ≤?-true : (a b : ℕ) → a ≤ b → (a ≤? b) ≡ true
≤?-true a b h = T_true (a ≤? b) (le-≤? a b h)

pub ≤?-false : (a b : ℕ) → b < a → (a ≤? b) ≡ false
≤?-false a b h = T_false (a ≤? b) (λ t. let g = ≤?-le a b t in absurd (omega arith))

-- ---- the loop

-- nothing below i passes
pub record NoneBelow (i : ℕ) (p : ℕ → Bool) : Type 0 where
  pub none_passes : (k : ℕ) → k < i → p k ≡ false

pub none_yet : (p : ℕ → Bool) → NoneBelow 0 p
none_yet p = record { none_passes = λ k h. absurd (omega arith) }

pub none_more : (i : ℕ) (p : ℕ → Bool) → NoneBelow i p → p i ≡ false → NoneBelow (i + 1) p
none_more i p none e =
    record {
      none_passes = λ k h. elim (dec_le (k + 1) i) [ yes l ↦ none.none_passes k (omega arith) | no l ↦ let s : k ≡ i = omega arith in rw s e ];
    }

-- one number more
pub any-more : (p : ℕ → Bool) (i : ℕ) → any_below (i + 1) p ≡ (any_below i p or p i)
unfolding any_below
any-more p i = rw add-one refl

module _ (n : ℕ) (p : ℕ → Bool) where
  pub any-hit : (i : ℕ) → i < n → p i ≡ true → any_below n p ≡ true
  any-hit i h e = T_true (any_below n p) (any_below-of n p i h (true-T e))

  pub any_none : (i : ℕ) → n ≤ i → NoneBelow i p → any_below n p ≡ false
  any_none i h none = T_false (any_below n p) (λ t. let a = any_below-at n p t in let b = a.1 in false-T (none.none_passes a.0 (omega arith)) a.2)

  pub first-hit : (i : ℕ) → i < n → NoneBelow i p → p i ≡ true → first_below n p ≡ i
  first-hit i h none e =
      let low = first_below-least n p i h (true-T e) in
      elim (dec_le i (first_below n p)) [
        | yes l ↦ omega arith
        | no l ↦ absurd (false-T (none.none_passes (first_below n p) (omega arith)) (first_below-at n p (omega arith)))
      ]

  pub first-none : (i : ℕ) → n ≤ i → NoneBelow i p → first_below n p ≡ n
  first-none i h none =
      let top = first_below-le n p in
      elim (dec_le n (first_below n p)) [
        | yes l ↦ omega arith
        | no l ↦ absurd (false-T (none.none_passes (first_below n p) (omega arith)) (first_below-at n p (omega arith)))
      ]

  -- ---- the lowest that passes

  first-before : (j : ℕ) → j < n → j < first_below n p → T (isnt (p j))
  first-before j h l = isnt-T (p j) (λ t. let q = first_below-least n p j h t in absurd (omega arith))

  pub first-lowest : first_below n p < n → Lowest n p (first_below n p)
  first-lowest h = record { inside = h; holds = first_below-at n p h; before = λ j l. first-before j (omega arith) l }

  pub first_past : n ≤ first_below n p → (j : ℕ) → j < n → T (isnt (p j))
  first_past h j l = first-before j l (omega arith)

  pub lowest-or-none : ((i : ℕ) × Lowest n p i) ⊎ ((j : ℕ) → j < n → T (isnt (p j)))
  lowest-or-none = elim (dec_le n (first_below n p)) [ yes l ↦ inr (first_past l) | no l ↦ inl (first_below n p, first-lowest (omega arith)) ]
