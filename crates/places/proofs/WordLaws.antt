-- The number of a test: its size, its digits under `&` and `|`, how many of them are 1, and whether one is.
-- Assumes nothing.
use mathlib.Core.Path.{◌≡◌, refl, sym, ap, ap₂, subst, ◌∙◌}
use mathlib.Core.Bool.{Bool, true, false, not}
use Prim.Native.Nat.{ℕ, zero, suc, ◌+◌, ◌*◌, ◌-◌, ◌%◌, ◌^◌, ◌≤◌, ◌<◌}
use native.Mathlib.Nat.{add_comm, mul_comm, pow-suc, le_refl, le_antisymm}
use native.Mathlib.Numerals.{add-one}
use native.Mathlib.Decide.{le_ind}
use native.Mathlib.Omega.{arith}
use lib.Dec.{lit<, eqb}
use lib.Arith.{digits_lt}
use Rattle.std.proofs.lemmas.Nat.{and-not}
use lib.Bits.{and_comm, bit_and, bit_or, and_block, or_block, or_add_and, and_le_l, and_le_r}
use lib.Count.{ones, ones_cat}
use lib.Pow.{pow_pos, pow_mono, shl_exact}
use borrow.Author.Tests.{ne_eqb}
use Rattle.below.specs.Below.{bit, ◌<?◌, ◌and◌, ◌or◌, any_below, sum_below, count_below}
use Rattle.below.proofs.SearchLaws.{<?-true, <?-false}
use Rattle.below.proofs.CountLaws.{sum-pos}
use Rattle.places.specs.Algorithm.Words.{word_of}

-- ---- size, and tests that agree

pub bit-lt : (b : Bool) → bit b < 2
bit-lt true = omega arith
bit-lt false = omega arith

pub word_lt : (w : ℕ) (p : ℕ → Bool) → word_of w p < 2 ^ w
unfolding word_of
word_lt zero p = lit< tt
word_lt (suc w) p = subst (λ (x : ℕ). bit (p w) * 2 ^ w + word_of w p < x) (mul_comm 2 (2 ^ w) ∙ sym (pow-suc 2 w)) (digits_lt (bit-lt (p w)) (word_lt w p))

pub word-ext : (w : ℕ) (p q : ℕ → Bool) → ((b : ℕ) → b < w → p b ≡ q b) → word_of w p ≡ word_of w q
unfolding word_of
word-ext zero p q h = refl
word-ext (suc w) p q h = ap₂ (λ (x : Bool) (y : ℕ). bit x * 2 ^ w + y) (h w (omega arith)) (word-ext w p q (λ b l. h b (omega arith)))

-- a digit 0 above, and no digit at all
top-none : (x : ℕ) (q : ℕ → Bool) → q x ≡ false → word_of x q ≡ word_of (suc x) q
unfolding word_of
top-none x q e = rw e (omega arith)

-- digits that are 0 may be left out
pub word-wider : (k w : ℕ) (p q : ℕ → Bool) → k ≤ w → ((b : ℕ) → b < k → p b ≡ q b) → ((b : ℕ) → k ≤ b → b < w → q b ≡ false) → word_of k p ≡ word_of w q
word-wider k w p q h same none = le_ind (λ (x : ℕ). x ≤ w → word_of k p ≡ word_of x q) (λ l. word-ext k p q same) more w h (le_refl w)
  where
    more : (x : ℕ) → k ≤ x → (x ≤ w → word_of k p ≡ word_of x q) → suc x ≤ w → word_of k p ≡ word_of (suc x) q
    more x l ih u = ih (omega arith) ∙ top-none x q (none x l u)

pub word_none : (w : ℕ) (q : ℕ → Bool) → ((b : ℕ) → b < w → q b ≡ false) → 0 ≡ word_of w q
unfolding word_of
word_none w q none = word-wider 0 w q q (omega arith) (λ b l. refl) (λ b l u. none b u)

-- ---- a word bit by bit, the lowest first

pub shl_one : (b : ℕ) → b < 64 → 1 * 2 ^ b % 2 ^ 64 ≡ 1 * 2 ^ b
shl_one b h = shl_exact {a = 1} 1 b 64 (omega arith) (omega arith)

-- a bit above the others fits
pub bit-fits : (b : ℕ) {word : ℕ} → b < 64 → word < 2 ^ b → 1 * 2 ^ b % 2 ^ 64 + word < 2 ^ 64
bit-fits b h l = rw (shl_one b h) (omega (arith, pow-suc 2 b, pow_mono {i = suc b} {j = 64} (omega arith)))

pub bit-on : (b word : ℕ) (on : Bool) → b < 64 → on ≡ true → 1 * 2 ^ b % 2 ^ 64 + word ≡ bit on * 2 ^ b + word
bit-on b word on h e = rw (shl_one b h, e)

pub bit-off : (b word : ℕ) (on : Bool) → on ≡ false → word ≡ bit on * 2 ^ b + word
bit-off b word on e = rw e (omega arith)

pub word_below : (b : ℕ) (p : ℕ → Bool) {word : ℕ} → word ≡ word_of b p → word < 2 ^ b
word_below b p e = rw e (word_lt b p)

pub word_next : (b : ℕ) (p : ℕ → Bool) {on : Bool} {word r : ℕ} → word ≡ word_of b p → on ≡ p b → r ≡ bit on * 2 ^ b + word → r ≡ word_of (b + 1) p
unfolding word_of
word_next b p e f h = h ∙ rw (e, f, add-one)

pub word_end : (b w : ℕ) (p : ℕ → Bool) {word : ℕ} → b ≤ w → w ≤ b → word ≡ word_of b p → word ≡ word_of w p
word_end b w p l u e = e ∙ ap (λ (x : ℕ). word_of x p) (le_antisymm l u)

-- ---- `&` and `|`, digit by digit

module _ (op : ℕ → ℕ → ℕ) (f : Bool → Bool → Bool) (none : op 0 0 ≡ 0) (bits : (x y : Bool) → op (bit x) (bit y) ≡ bit (f x y))
    (block : (k a b r s : ℕ) → r < 2 ^ k → s < 2 ^ k → op (a * 2 ^ k + r) (b * 2 ^ k + s) ≡ op a b * 2 ^ k + op r s) where
  op-word : (w : ℕ) (p q : ℕ → Bool) → op (word_of w p) (word_of w q) ≡ word_of w (λ k. f (p k) (q k))
  unfolding word_of
  op-word zero p q = none
  op-word (suc w) p q =
      block w (bit (p w)) (bit (q w)) (word_of w p) (word_of w q) (word_lt w p) (word_lt w q)
      ∙ ap₂ (λ (x y : ℕ). x * 2 ^ w + y) (bits (p w) (q w)) (op-word w p q)

and-bits : (x y : Bool) → bit_and (bit x) (bit y) ≡ bit (x and y)
unfolding ◌and◌
and-bits true true = refl
and-bits true false = refl
and-bits false y = refl

or-bits : (x y : Bool) → bit_or (bit x) (bit y) ≡ bit (x or y)
unfolding ◌or◌
or-bits true true = refl
or-bits true false = refl
or-bits false y = refl

pub and_word : (w : ℕ) (p q : ℕ → Bool) → bit_and (word_of w p) (word_of w q) ≡ word_of w (λ k. p k and q k)
and_word = op-word bit_and ◌and◌ refl and-bits and_block

pub or_word : (w : ℕ) (p q : ℕ → Bool) → bit_or (word_of w p) (word_of w q) ≡ word_of w (λ k. p k or q k)
or_word = op-word bit_or ◌or◌ refl or-bits or_block

-- a number's digits that another has not
pub and-not-word : (x y : ℕ) → x < 2 ^ 64 → y < 2 ^ 64 → bit_and x (2 ^ 64 - 1 - y) ≡ x - bit_and x y
and-not-word x y h l = let e = and-not 64 y x l h in let c = and_comm x (2 ^ 64 - 1 - y) in let d = and_comm x y in omega arith

-- ---- how many digits are 1, and whether one is

ones_bit : (b : Bool) → ones (bit b) ≡ bit b
unfolding ones
ones_bit true = refl
ones_bit false = refl

pub ones-word : (w : ℕ) (p : ℕ → Bool) → ones (word_of w p) ≡ count_below w p
unfolding word_of count_below sum_below
ones-word zero p = ones_bit false
ones-word (suc w) p =
    ones_cat w (bit (p w)) (word_of w p) (word_lt w p) ∙ ap₂ ◌+◌ (ones_bit (p w)) (ones-word w p) ∙ add_comm (bit (p w)) _

place-pos : (w : ℕ) (b : Bool) → (0 <? bit b * 2 ^ w) ≡ b
place-pos w true = <?-true 0 (1 * 2 ^ w) (omega (arith, pow_pos w))
place-pos w false = <?-false 0 (0 * 2 ^ w) (omega arith)

or_comm : (a b : Bool) → (a or b) ≡ (b or a)
unfolding ◌or◌
or_comm true true = refl
or_comm true false = refl
or_comm false true = refl
or_comm false false = refl

pub word-any : (w : ℕ) (p : ℕ → Bool) → (0 <? word_of w p) ≡ any_below w p
unfolding word_of any_below
word-any zero p = <?-false 0 0 (omega arith)
word-any (suc w) p = sum-pos (bit (p w) * 2 ^ w) (word_of w p) ∙ ap₂ ◌or◌ (place-pos w (p w)) (word-any w p) ∙ or_comm (p w) _

-- `(x | y) != 0`
pub either-pos : (x y : ℕ) → not (eqb (bit_or x y) 0) ≡ (0 <? x or 0 <? y)
either-pos x y = go (bit_or x y) (bit_and x y) (or_add_and x y) (and_le_l x y) (and_le_r x y) ∙ sum-pos x y
  where
    go : (o d : ℕ) → o + d ≡ x + y → d ≤ x → d ≤ y → not (eqb o 0) ≡ (0 <? x + y)
    go zero d e l r = sym (<?-false 0 (x + y) (omega arith))
    go (suc o) d e l r = ap not (ne_eqb (suc o) 0 (λ q. omega arith)) ∙ sym (<?-true 0 (x + y) (omega arith))
