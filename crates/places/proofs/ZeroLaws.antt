-- The zeros at either end of a word, and with them the lowest place of a set and the end of its places.
-- Assumes nothing.
use Rattle.std.specs.Prelude.{if◌then◌else◌}
use mathlib.Core.Path.{◌≡◌, refl, sym, ap, ap₂, subst, ◌∙◌}
use mathlib.Core.Bool.{Bool, true, false}
use Prim.Native.Nat.{ℕ, zero, suc, ◌+◌, ◌*◌, ◌-◌, ◌/◌, ◌%◌, ◌^◌, ◌≤◌, ◌<◌}
use native.Mathlib.Nat.{add-zero, pow-suc, mod-lt}
use native.Mathlib.Numerals.{add-one}
use native.Mathlib.Omega.{arith}
use lib.Count.{count_leading_zeros, count_trailing_zeros, under, leading_of_zero, leading_unique, leading_top, trailing_of_zero}
use Rattle.std.proofs.lemmas.Nat.Bits.{bit_at-trailing_zeros}
use Rattle.std.specs.Int.{w64}
use Rattle.std.proofs.Common.{◌≢◌}
use lib.Pow.{shr_lt, shr-shr, split, high, low}
use Rattle.below.specs.Below.{bit, ◌=?◌, first_below, end_below}
use Rattle.below.proofs.SearchLaws.{<?-true, <?-false, none_yet, none_more}
use Rattle.below.proofs.EndLaws.{is-first, first-low, first-high, end-high, end_low}
use Rattle.places.specs.declared.places.Places.{Places}
use Rattle.places.specs.Algorithm.Words.{word_of, half_word}
use Rattle.places.specs.Algorithm.Places.{places_where, has_place}
use Rattle.places.proofs.WordLaws.{bit-lt, word_lt, word-ext}
use Rattle.places.proofs.PlaceLaws.{places}
use Rattle.places.proofs.ShiftLaws.{word_split}

-- ---- a word by its lowest digit and the others

suc-is : (w : ℕ) → suc w ≡ 1 + w
suc-is w = omega arith

word-step : (w : ℕ) (p : ℕ → Bool) → word_of (suc w) p ≡ word_of w (λ k. p (1 + k)) * 2 ^ 1 + bit (p 0)
unfolding word_of
word-step w p = ap (λ (z : ℕ). word_of z p) (suc-is w) ∙ word_split 1 w p ∙ ap (λ (z : ℕ). word_of w (λ k. p (1 + k)) * 2 ^ 1 + z) (omega arith)

bit-one : (r : ℕ) → r < 2 → r ≡ bit (r =? 1)
unfolding ◌=?◌
bit-one zero h = refl
bit-one (suc zero) h = refl
bit-one (suc (suc r)) h = absurd (omega arith)

-- a number is the word of its own digits
word-of : (w x : ℕ) → x < 2 ^ w → x ≡ word_of w (λ b. x / 2 ^ b % 2 =? 1)
unfolding word_of
word-of zero x h = omega arith
word-of (suc w) x h =
    let half = word-of w (x / 2) (shr_lt w 1 (subst (λ (z : ℕ). x < 2 ^ z) (sym (add-one w)) h)) ∙ word-ext w _ _ (λ b l. ap (λ (z : ℕ). z % 2 =? 1) (shr-shr x 1 b)) in
    let last = bit-one (x % 2) (mod-lt x (omega arith)) ∙ ap (λ (z : ℕ). bit (z % 2 =? 1)) (let e : x ≡ x / 2 ^ 0 = omega arith in e) in
    sym (split x 1) ∙ ap₂ (λ (u v : ℕ). u * 2 ^ 1 + v) half last ∙ sym (word-step w (λ b. x / 2 ^ b % 2 =? 1))

-- ---- the zeros of a word

first_step : (n : ℕ) (p : ℕ → Bool) (b : Bool) → p 0 ≡ b → under (bit b) (first_below n (λ k. p (1 + k))) ≡ first_below (suc n) p
first_step n p true e = is-first (suc n) p 0 (omega arith) (none_yet p) (λ l. e)
first_step n p false e =
    let one = is-first 1 p 1 (omega arith) (none_more 0 p (none_yet p) e) (λ l. absurd (omega arith)) in
    suc-is _ ∙ first-high 1 n p (omega arith) ∙ ap (λ (z : ℕ). first_below z p) (sym (suc-is n))

-- those below its lowest digit that is 1
trailing-word : (w : ℕ) (p : ℕ → Bool) → count_trailing_zeros w (word_of w p) ≡ first_below w p
unfolding count_trailing_zeros first_below
trailing-word zero p = refl
trailing-word (suc w) p =
    let rest = word_of w (λ k. p (1 + k)) in
    ap (count_trailing_zeros (suc w)) (word-step w p)
    ∙ ap₂ under (low rest 1 (bit-lt (p 0))) (ap (count_trailing_zeros w) (high rest 1 (bit-lt (p 0))) ∙ trailing-word w _)
    ∙ first_step w p (p 0) refl

-- those above its highest
leading-word : (k w : ℕ) (p : ℕ → Bool) → w ≤ k → count_leading_zeros k (word_of w p) + end_below w p ≡ k
unfolding word_of end_below
leading-word k zero p h = add-zero _ ∙ leading_of_zero k
leading-word k (suc w) p h = top (p w) (leading-word k w p (omega arith))
  where
    top : (b : Bool) → count_leading_zeros k (word_of w p) + end_below w p ≡ k → count_leading_zeros k (bit b * 2 ^ w + word_of w p) + (if b then suc w else end_below w p) ≡ k
    top true e =
        let l = word_lt w p in
        let u = leading_unique k (1 * 2 ^ w + word_of w p) (k - suc w) (suc w) (omega arith) (omega (arith, pow-suc 2 w)) (omega (arith, pow-suc 2 w)) in
        omega arith
    top false e = ap (λ (z : ℕ). count_leading_zeros k z + end_below w p) (omega arith) ∙ e

-- ---- a set of places

module _ (x : Places) (lo : x.low < 2 ^ 64) (hi : x.high < 2 ^ 64) where
  low_word : x.low ≡ word_of 64 (has_place x)
  unfolding has_place
  low_word = word-of 64 x.low lo ∙ word-ext 64 _ _ (λ b l. rw (<?-true b 64 l))

  high_word : x.high ≡ word_of 64 (λ b. has_place x (64 + b))
  unfolding has_place
  high_word = word-of 64 x.high hi ∙ word-ext 64 _ _ (λ b l. rw (<?-false (64 + b) 64 (omega arith)) (ap (λ (z : ℕ). x.high / 2 ^ z % 2 =? 1) (omega arith)))

  -- it is that of the places that it has
  pub set_is : x ≡ places_where (has_place x)
  unfolding places_where half_word
  set_is = ap₂ places (low_word ∙ word-ext 64 _ _ (λ b l. ap (has_place x) (omega arith))) high_word

  -- its lowest place: in the lower word, and else in the higher
  trailing : count_trailing_zeros 64 x.low ≡ first_below 64 (has_place x)
  trailing = ap (count_trailing_zeros 64) low_word ∙ trailing-word 64 _

  pub lowest-low : x.low ≢ 0 → count_trailing_zeros 64 x.low ≡ first_below 128 (has_place x)
  lowest-low h =
      let e = trailing in
      let few = (bit_at-trailing_zeros w64 x.low (omega arith) lo).0 in
      e ∙ first-low 64 64 (has_place x) (omega arith)

  pub lowest-high : x.low ≡ 0 → 64 + count_trailing_zeros 64 x.high ≡ first_below 128 (has_place x)
  lowest-high h =
      let e = trailing in
      let all = ap (count_trailing_zeros 64) h ∙ trailing_of_zero 64 in
      ap (λ (z : ℕ). 64 + z) (ap (count_trailing_zeros 64) high_word ∙ trailing-word 64 _) ∙ first-high 64 64 (has_place x) (omega arith)

  -- the end of its places: in the higher word, and else in the lower
  leading : count_leading_zeros 64 x.high + end_below 64 (λ b. has_place x (64 + b)) ≡ 64
  leading = ap (λ (z : ℕ). count_leading_zeros 64 z + end_below 64 (λ b. has_place x (64 + b))) high_word ∙ leading-word 64 64 _ (omega arith)

  pub highest-high : x.high ≢ 0 → 128 - count_leading_zeros 64 x.high ≡ end_below 128 (has_place x)
  highest-high h =
      let l = leading in
      let few = (leading_top 64 x.high (omega arith) hi).1 in
      let e = end-high 64 64 (has_place x) (omega arith) in
      omega arith

  pub highest-low : x.high ≡ 0 → 64 - count_leading_zeros 64 x.low ≡ end_below 128 (has_place x)
  highest-low h =
      let l = leading in
      let all = ap (count_leading_zeros 64) h ∙ leading_of_zero 64 in
      let k = ap (λ (z : ℕ). count_leading_zeros 64 z + end_below 64 (has_place x)) low_word ∙ leading-word 64 64 (has_place x) (omega arith) in
      let e = end_low 64 64 (has_place x) (omega arith) in
      omega arith
