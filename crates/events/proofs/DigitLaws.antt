-- The digits of a mask to a base k.
-- Assumes nothing.
use mathlib.Core.Path.{◌≡◌, sym, ap, ap₂, subst, ◌∙◌}
use Prim.Native.Nat.{ℕ, suc, ◌+◌, ◌*◌, ◌-◌, ◌^◌, ◌/◌, ◌%◌, ◌<◌}
use native.Mathlib.Nat.{one-le-pow, add-mul, mul_assoc, pow-succ', pow-suc, mod-lt, div-add-mod', div-lt_iff_lt-mul, div-div-eq-div-mul, mul-add-div_right, mul-add-mod_self_right}
use native.Mathlib.Decide.{dec_lt}
use native.Mathlib.Omega.{arith}
use lib.Arith.{digits_lt, digits_div, digits_mod}
use lib.Pow.{pow-add}
use Rattle.events.specs.Algorithm.Slots.{digit, with_digit}

module _ (k : ℕ) (positive : 0 < k) where
  pub power : (b : ℕ) → 0 < k ^ b
  power b = one-le-pow b k positive

  -- a digit below place w is the lower part's
  low_digit : (w h l j : ℕ) → j < w → (h * k ^ w + l) / k ^ j % k ≡ l / k ^ j % k
  low_digit w h l j lt =
      let e : h * k ^ w ≡ h * k ^ (w - 1 - j) * k * k ^ j =
      ap (λ (x : ℕ). h * x) (ap (λ (x : ℕ). k ^ x) (let q : w ≡ w - 1 - j + suc j = omega arith in q) ∙ pow-add k (w - 1 - j) (suc j) ∙ ap (λ (x : ℕ). k ^ (w - 1 - j) * x) (pow-succ' k j))
      ∙ simp mul_assoc in
      rw e (rw (mul-add-div_right (power j) (h * k ^ (w - 1 - j) * k) l, mul-add-mod_self_right (h * k ^ (w - 1 - j)) k (l / k ^ j)))

  -- a mask about the slot b: the digits above it, the digit, what is below
  pub mask-parts : (b mask : ℕ) → mask ≡ (mask / k ^ b / k * k + digit k b mask) * k ^ b + mask % k ^ b
  mask-parts b mask =
      sym (div-add-mod' mask (k ^ b)) ∙ ap (λ (x : ℕ). x * k ^ b + mask % k ^ b) (sym (div-add-mod' (mask / k ^ b) k))

  below : (b mask : ℕ) → mask % k ^ b < k ^ b
  below b mask = mod-lt mask (power b)

  set-upper : (b d mask : ℕ) → with_digit k b d mask / k ^ b ≡ mask / k ^ b / k * k + d
  unfolding with_digit
  set-upper b d mask = digits_div (mask / k ^ b / k * k + d) (below b mask)

  set-lower : (b d mask : ℕ) → with_digit k b d mask % k ^ b ≡ mask % k ^ b
  unfolding with_digit
  set-lower b d mask = digits_mod (mask / k ^ b / k * k + d) (below b mask)

  pub set_same : (b d mask : ℕ) → d < k → digit k b (with_digit k b d mask) ≡ d
  set_same b d mask le = ap (λ (x : ℕ). x % k) (set-upper b d mask) ∙ digits_mod (mask / k ^ b / k) (omega arith)

  -- a second change undoes the first
  pub set_twice : (b d e mask : ℕ) → e < k → with_digit k b d (with_digit k b e mask) ≡ with_digit k b d mask
  unfolding with_digit
  set_twice b d e mask le =
      let up : with_digit k b e mask / k ^ b / k ≡ mask / k ^ b / k =
      ap (λ (x : ℕ). x / k) (set-upper b e mask) ∙ digits_div (mask / k ^ b / k) (omega arith) in
      ap₂ (λ (x y : ℕ). (x * k + d) * k ^ b + y) up (set-lower b e mask)

  -- the digits above the slot b are those of the part above it
  higher : (b j mask : ℕ) → b < j → digit k j mask ≡ mask / k ^ b / k / k ^ (j - 1 - b) % k
  higher b j mask lt =
      let e : k ^ j ≡ k ^ b * k * k ^ (j - 1 - b) =
      ap (λ (x : ℕ). k ^ x) (let q : j ≡ suc b + (j - 1 - b) = omega arith in q) ∙ pow-add k (suc b) (j - 1 - b) ∙ ap (λ (x : ℕ). x * k ^ (j - 1 - b)) (pow-suc k b) in
      ap (λ (x : ℕ). x % k)
      (ap (λ (x : ℕ). mask / x) e ∙ sym (div-div-eq-div-mul mask (k ^ b * k) (k ^ (j - 1 - b)))
      ∙ ap (λ (x : ℕ). x / k ^ (j - 1 - b)) (sym (div-div-eq-div-mul mask (k ^ b) k)))

  pub set_other : (b d mask j : ℕ) → d < k → (j ≡ b → ⊥) → digit k j (with_digit k b d mask) ≡ digit k j mask
  unfolding with_digit
  set_other b d mask j le ne = elim (dec_lt j b) [
    | yes lt ↦ low_digit b (mask / k ^ b / k * k + d) (mask % k ^ b) j lt
        ∙ sym (low_digit b (mask / k ^ b) (mask % k ^ b) j lt)
        ∙ ap (λ (x : ℕ). x / k ^ j % k) (div-add-mod' mask (k ^ b))
    | no nlt ↦ higher b j (with_digit k b d mask) (omega arith)
        ∙ ap (λ (x : ℕ). x / k ^ (j - 1 - b) % k) (ap (λ (x : ℕ). x / k) (set-upper b d mask) ∙ digits_div (mask / k ^ b / k) (omega arith))
        ∙ sym (higher b j mask (omega arith))
  ]

  -- a mask of w slots stays one
  pub set_below : (w b d mask : ℕ) → b < w → d < k → mask < k ^ w → with_digit k b d mask < k ^ w
  unfolding with_digit
  set_below w b d mask lt le small =
      let e : k ^ w ≡ k ^ (w - 1 - b) * k * k ^ b =
      ap (λ (x : ℕ). k ^ x) (let q : w ≡ suc (w - 1 - b) + b = omega arith in q) ∙ pow-add k (suc (w - 1 - b)) b ∙ ap (λ (x : ℕ). x * k ^ b) (pow-suc k (w - 1 - b)) in
      let h : mask / k ^ b < k ^ (w - 1 - b) * k = (div-lt_iff_lt-mul (power b)).1 (subst (λ (x : ℕ). mask < x) e small) in
      let q : mask / k ^ b / k < k ^ (w - 1 - b) = (div-lt_iff_lt-mul positive).1 h in
      subst (λ (x : ℕ). (mask / k ^ b / k * k + d) * k ^ b + mask % k ^ b < x) (sym e)
      (digits_lt (digits_lt {q = mask / k ^ b / k} {m = k ^ (w - 1 - b)} {r = d} {c = k} q (omega arith)) (below b mask))

  -- where the digit is 0 another is added; where it is not, it is taken off
  pub set-add : (b d mask : ℕ) → digit k b mask ≡ 0 → with_digit k b d mask ≡ mask + d * k ^ b
  unfolding with_digit
  set-add b d mask e =
      let p = mask-parts b mask in
      let zero-digit : (mask / k ^ b / k * k + digit k b mask) * k ^ b ≡ mask / k ^ b / k * k * k ^ b =
      ap (λ (x : ℕ). x * k ^ b) (omega arith) in
      let split = add-mul (mask / k ^ b / k * k) d (k ^ b) in
      omega arith

  pub set-sub : (b mask : ℕ) → with_digit k b 0 mask ≡ mask - digit k b mask * k ^ b
  unfolding with_digit
  set-sub b mask =
      let p = mask-parts b mask in
      let split = add-mul (mask / k ^ b / k * k) (digit k b mask) (k ^ b) in
      let none : (mask / k ^ b / k * k + 0) * k ^ b ≡ mask / k ^ b / k * k * k ^ b = ap (λ (x : ℕ). x * k ^ b) (omega arith) in
      omega arith
