-- Every other digit of a word, moved together: groups of digits with as many zeros after each, two of which become one.
-- Assumes nothing.
use mathlib.Core.Path.{◌≡◌, refl, sym, ap, ap₂, ◌∙◌}
use mathlib.Core.Bool.{Bool, true, false}
use Prim.Native.Nat.{ℕ, ◌+◌, ◌*◌, ◌-◌, ◌/◌, ◌%◌, ◌^◌, ◌≤◌, ◌<◌}
use native.Mathlib.Nat.{mul_comm, mul_assoc, add-mul, add_comm, add_assoc, mod-lt}
use native.Mathlib.Decide.{dec_lt}
use native.Mathlib.Omega.{arith}
use lib.Bits.{bit_and, bit_or}
use lib.Pow.{pow_pos, pow-add, shr-shr, split, high, low, mod-pow-add}
use Rattle.below.specs.Below.{◌=?◌, ◌<?◌, ◌and◌, ◌or◌}
use Rattle.below.proofs.SearchLaws.{=?-true, =?-false, <?-true, <?-false}
use Rattle.places.specs.Algorithm.Words.{word_of}
use Rattle.places.proofs.WordLaws.{word-ext, word-wider, and_word, or_word}
use Rattle.places.proofs.ShiftLaws.{word-down}

-- the places of every other group of 2 ^ s
unfoldable pub even : ℕ → ℕ → Bool
even s c = c / 2 ^ s % 2 =? 0

-- a test in groups of 2 ^ s places, with as many left free after each
unfoldable pub spaced : ℕ → (ℕ → Bool) → ℕ → Bool
spaced s p c = even s c and p (c / 2 ^ s / 2 * 2 ^ s + c % 2 ^ s)

or-none : (a : Bool) → (a or false) ≡ a
unfolding ◌or◌
or-none true = refl
or-none false = refl

double : (q u : ℕ) → q * (2 * u) ≡ 2 * q * u
double q u = sym (mul_assoc q 2 u) ∙ ap (λ (z : ℕ). z * u) (mul_comm q 2)

-- digit b of group k, of groups of u
module _ (p : ℕ → Bool) (u b : ℕ) where
  group : ℕ → Bool
  group k = k % 2 =? 0 and p (k / 2 * u + b)

  -- two groups are one of twice the size
  pair : (k : ℕ) → (k / 2 % 2 =? 0 and (group k or group (1 + k))) ≡ (k / 2 % 2 =? 0 and p (k / 2 / 2 * (2 * u) + (k % 2 * u + b)))
  unfolding group ◌and◌ ◌or◌
  pair k = elim (dec_lt (k / 2 % 2) 1) [
    | no h ↦ rw (=?-false (k / 2 % 2) 0 (λ e. omega arith))
    | yes h ↦
        let q = k / 2 / 2 in
        elim (dec_lt (k % 2) 1) [
          | yes l ↦
              let e : k / 2 ≡ 2 * q = omega arith in
              let z : k % 2 ≡ 0 = omega arith in
              let t : k % 2 * u + b ≡ b = ap (λ (x : ℕ). x * u + b) z ∙ omega arith in
              rw (=?-true (k / 2 % 2) 0 (omega arith), =?-true (k % 2) 0 z, =?-false ((1 + k) % 2) 0 (λ e. omega arith))
              (or-none (p (k / 2 * u + b)) ∙ ap (λ (x : ℕ). p (x + b)) (ap (λ (x : ℕ). x * u) e ∙ sym (double q u)) ∙ ap (λ (x : ℕ). p (q * (2 * u) + x)) (sym t))
          | no l ↦
              let e : (1 + k) / 2 ≡ 2 * q + 1 = omega arith in
              let z : k % 2 ≡ 1 = omega arith in
              rw (=?-true (k / 2 % 2) 0 (omega arith), =?-false (k % 2) 0 (λ e. omega arith), =?-true ((1 + k) % 2) 0 (omega arith))
              (ap p (ap (λ (x : ℕ). x * u + b) e ∙ ap (λ (x : ℕ). x + b) (add-mul (2 * q) 1 u) ∙ add_assoc (2 * q * u) (1 * u) b ∙ ap₂ (λ (x y : ℕ). x + (y * u + b)) (sym (double q u)) (sym z)))
        ]
  ]

-- the digits of a word in groups of 2 ^ s, and those in groups of twice that
module _ (s : ℕ) (p : ℕ → Bool) where
  narrow-is : (c : ℕ) → spaced s p c ≡ group p (2 ^ s) (c % 2 ^ s) (c / 2 ^ s)
  unfolding spaced even group
  narrow-is c = refl

  next-is : (c : ℕ) → spaced s p (2 ^ s + c) ≡ group p (2 ^ s) (c % 2 ^ s) (1 + c / 2 ^ s)
  next-is c =
      let parts : 2 ^ s + c ≡ (1 + c / 2 ^ s) * 2 ^ s + c % 2 ^ s = ap (λ (x : ℕ). 2 ^ s + x) (sym (split c s)) ∙ (let e = add-mul 1 (c / 2 ^ s) (2 ^ s) in omega arith) in
      let rest = mod-lt c (pow_pos s) in
      narrow-is (2 ^ s + c) ∙ ap₂ (group p (2 ^ s)) (ap (λ (x : ℕ). x % 2 ^ s) parts ∙ low (1 + c / 2 ^ s) s rest) (ap (λ (x : ℕ). x / 2 ^ s) parts ∙ high (1 + c / 2 ^ s) s rest)

  wide_is : (c : ℕ) → spaced (s + 1) p c ≡ (c / 2 ^ s / 2 % 2 =? 0 and p (c / 2 ^ s / 2 / 2 * (2 * 2 ^ s) + (c / 2 ^ s % 2 * 2 ^ s + c % 2 ^ s)))
  unfolding spaced even
  wide_is c =
      let up : 2 ^ (s + 1) ≡ 2 * 2 ^ s = pow-add 2 s 1 ∙ omega arith in
      let k : c / 2 ^ (s + 1) ≡ c / 2 ^ s / 2 = sym (shr-shr c s 1) in
      let b : c % 2 ^ (s + 1) ≡ c / 2 ^ s % 2 * 2 ^ s + c % 2 ^ s = ap (λ (x : ℕ). c % 2 ^ x) (add_comm s 1) ∙ mod-pow-add c 1 s in
      ap₂ (λ (x y : ℕ). x % 2 =? 0 and p (x / 2 * 2 ^ (s + 1) + y)) k b ∙ ap (λ (x : ℕ). c / 2 ^ s / 2 % 2 =? 0 and p (c / 2 ^ s / 2 / 2 * x + (c / 2 ^ s % 2 * 2 ^ s + c % 2 ^ s))) up

  -- the groups in pairs, in words of 64 digits: none is lost, since what lies past the last digit is not kept
  module _ (g : ℕ) (size : g ≡ 2 ^ s) (few : g ≤ 64) (room : (c : ℕ) → c < 64 → 64 ≤ g + c → c / 2 ^ (s + 1) % 2 ≡ 1) where
    down : word_of 64 (spaced s p) / 2 ^ g ≡ word_of 64 (λ c. c <? (64 - g) and spaced s p (g + c))
    unfolding ◌and◌
    down =
        word-down g (64 - g) 64 _ (omega arith)
        ∙ word-wider (64 - g) 64 _ _ (omega arith) (λ c h. rw (<?-true c (64 - g) h)) (λ c h l. rw (<?-false c (64 - g) h))

    freed : (c : ℕ) → (c / 2 ^ (s + 1) % 2 =? 0) ≡ false → spaced (s + 1) p c ≡ false
    unfolding spaced even ◌and◌
    freed c f = rw f

    digit : (c : ℕ) → c < 64 → (even (s + 1) c and (spaced s p c or (c <? (64 - g) and spaced s p (g + c)))) ≡ spaced (s + 1) p c
    unfolding even ◌and◌
    digit c h = elim (dec_lt c (64 - g)) [
      | yes l ↦
          rw (<?-true c (64 - g) l, size)
          (ap₂ (λ (x y : Bool). c / 2 ^ (s + 1) % 2 =? 0 and (x or y)) (narrow-is c) (next-is c)
          ∙ ap (λ (x : ℕ). x % 2 =? 0 and (group p (2 ^ s) (c % 2 ^ s) (c / 2 ^ s) or group p (2 ^ s) (c % 2 ^ s) (1 + c / 2 ^ s))) (sym (shr-shr c s 1))
          ∙ pair p (2 ^ s) (c % 2 ^ s) (c / 2 ^ s)
          ∙ sym (wide_is c))
      | no l ↦
          let e = room c h (omega arith) in
          let f : (c / 2 ^ (s + 1) % 2 =? 0) ≡ false = =?-false _ 0 (λ z. omega arith) in
          rw f (sym (freed c f))
    ]

    pub gathered-is : {w keep r : ℕ} → w ≡ word_of 64 (spaced s p) → keep ≡ word_of 64 (even (s + 1)) → r ≡ bit_and keep (bit_or w (w / 2 ^ g)) → r ≡ word_of 64 (spaced (s + 1) p)
    gathered-is {w} {keep} e k is =
        is
        ∙ ap₂ (λ (x y : ℕ). bit_and x (bit_or y (y / 2 ^ g))) k e
        ∙ ap (λ (x : ℕ). bit_and (word_of 64 (even (s + 1))) x) (ap (bit_or (word_of 64 (spaced s p))) down ∙ or_word 64 _ _)
        ∙ and_word 64 _ _
        ∙ word-ext 64 _ _ digit

-- the first step, and what the last leaves
module _ (p : ℕ → Bool) where
  pub evens-kept : {w keep r : ℕ} → w ≡ word_of 64 p → keep ≡ word_of 64 (even 0) → r ≡ bit_and keep w → r ≡ word_of 64 (spaced 0 (λ k. p (2 * k)))
  unfolding spaced even ◌and◌
  evens-kept e k is = is ∙ ap₂ bit_and k e ∙ and_word 64 _ _ ∙ word-ext 64 _ _ (λ c h. elim (dec_lt (c % 2) 1) [
    | yes l ↦ rw (=?-true (c / 2 ^ 0 % 2) 0 (omega arith)) (ap p (omega arith))
    | no l ↦ rw (=?-false (c / 2 ^ 0 % 2) 0 (λ z. omega arith))
  ])

  pub together : {r : ℕ} → r ≡ word_of 64 (spaced 5 p) → r ≡ word_of 32 p
  unfolding spaced even ◌and◌
  together e = e ∙ sym (word-wider 32 64 p _ (omega arith)
      (λ c h. rw (=?-true (c / 2 ^ 5 % 2) 0 (omega arith)) (ap p (omega arith)))
      (λ c h l. rw (=?-false (c / 2 ^ 5 % 2) 0 (λ z. omega arith))))
