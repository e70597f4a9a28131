-- The decimal digits of a number: what the kit's digits have to do with them, and how many there are.
-- Assumes nothing.
use mathlib.Core.Path.{◌≡◌, sym, ap₂, ◌∙◌}
use mathlib.Core.List.{List, [], ◌∷◌, ◌++◌}
use Prim.Native.Nat.{ℕ, zero, suc, ◌+◌, ◌*◌, ◌-◌, ◌/◌, ◌%◌, ◌^◌, ◌<◌, ◌≤◌}
use Prim.Native.Char.{code}
use native.Mathlib.Nat.{not-suc-le-zero, pow-succ', pow-le-pow_right}
use native.Mathlib.Omega.{arith}
use lib.ListN.{length, length-append}
use borrow.Author.Tests.{lt-ltb}
use Rattle.io.specs.Digits.{IsDigitCount, hex_digit_ascii, last_digits as digitsIn}
use Rattle.below.specs.Below.{◌<?◌, ◌=?◌}
use Rattle.below.proofs.BelowLaws.{if-true, if-false, if-ind, lt-<?, le-isnt}
use Rattle.below.specs.Text.{ascii}
use Rattle.listing.specs.Listing.{digits_of, decimal, block_word}

-- a digit below 10 as the kit has it
glyph-is : (x : ℕ) → hex_digit_ascii (x % 10) ≡ code "0" + x % 10
glyph-is x = rw (lt-ltb (x % 10) 10 (omega arith))

-- ten times a power, with the next power an unknown
power-more : (j : ℕ) → 10 ^ suc j ≡ 10 * 10 ^ j
power-more j = pow-succ' 10 j

-- a number of two digits or more
many : (j x : ℕ) → IsDigitCount 10 1 x (suc (suc j)) → 10 ^ suc j ≤ x
many j x f = let e : suc (suc j) - 1 ≡ suc j = omega arith in rw e at (f.2 (omega arith))

fewer : (j x : ℕ) → IsDigitCount 10 1 x (suc (suc j)) → IsDigitCount 10 1 (x / 10) (suc j)
fewer j x f =
    let d = power-more j in
    let e = power-more (suc j) in
    let z : suc j - 1 ≡ j = omega arith in
    let h = many j x f in
    let few = f.1 in
    (omega arith, omega arith, λ more. rw z (omega arith))

-- the fewest digits that hold x, as the kit spells them
spelt : (k fuel x : ℕ) → x < fuel → IsDigitCount 10 1 x k → digitsIn 10 k x ≡ digits_of fuel x
unfolding digits_of
spelt zero fuel x h f = absurd (not-suc-le-zero f.0)
spelt (suc k) zero x h f = absurd (not-suc-le-zero h)
spelt (suc zero) (suc fuel) x h f = ap₂ (λ (l : List ℕ) (d : ℕ). l ++ (d ∷ [])) (sym (if-true (x <? 10) [] (digits_of fuel (x / 10)) (lt-<? x 10 f.1))) (glyph-is x)
spelt (suc (suc j)) (suc fuel) x h f =
    let d = power-more j in
    let p = pow-le-pow_right {n = 10} (omega arith) {i = 0} {j = j} (omega arith) in
    let m = many j x f in
    ap₂ (λ (l : List ℕ) (d : ℕ). l ++ (d ∷ [])) (spelt (suc j) fuel (x / 10) (omega arith) (fewer j x f) ∙ sym (if-false (x <? 10) [] (digits_of fuel (x / 10)) (le-isnt x 10 (omega arith)))) (glyph-is x)

pub decimal-spelt : (k x : ℕ) → IsDigitCount 10 1 x k → digitsIn 10 k x ≡ decimal x
unfolding decimal
decimal-spelt k x f = spelt k (suc x) x (omega arith) f

-- a number below a power of 10 has at most as many digits
short : (k fuel x : ℕ) → x < 10 ^ suc k → length (digits_of fuel x) ≤ suc k
unfolding digits_of
short k zero x h = omega arith
short zero (suc fuel) x h = rw (if-true (x <? 10) [] (digits_of fuel (x / 10)) (lt-<? x 10 h)) (omega arith)
short (suc k) (suc fuel) x h =
    let e = power-more (suc k) in
    let s = short k fuel (x / 10) (omega arith) in
    rw length-append (if-ind (λ (l : List ℕ). length l + 1 ≤ suc (suc k)) (x <? 10) (λ t. omega arith) (λ t. omega arith))

pub decimal-short : (k x : ℕ) → x < 10 ^ suc k → length (decimal x) ≤ suc k
unfolding decimal
decimal-short k x h = short k (suc x) x h

pub decimal-some : (x : ℕ) → 0 < length (decimal x)
unfolding decimal digits_of
decimal-some x = rw length-append (omega arith)

pub block-some : (block : ℕ) → 0 < length (block_word block)
unfolding block_word ascii
block-some block = if-ind (λ (l : List ℕ). 0 < length l) (block =? 255) (λ t. omega arith) (λ t. decimal-some block)
