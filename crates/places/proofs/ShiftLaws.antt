-- Words and sets of places cut in two, shifted, taken from one another, and read place by place.
-- Assumes nothing.
use mathlib.Core.Path.{◌≡◌, refl, sym, ap, ap₂, subst, ◌∙◌}
use mathlib.Core.Bool.{Bool, true, false}
use Prim.Native.Nat.{ℕ, zero, suc, ◌+◌, ◌*◌, ◌-◌, ◌/◌, ◌%◌, ◌^◌, ◌≤◌, ◌<◌, min}
use native.Mathlib.Nat.{mul_comm, mul_assoc, add-mul, add_assoc, pow-suc, lt_of_lt_of_le, mod-lt, mul-mod_left, mul-add-mod_self_right}
use native.Mathlib.Decide.{dec_lt}
use native.Mathlib.Omega.{arith}
use lib.Bits.{bit_and}
use lib.Arith.{digits_lt}
use lib.Pow.{pow_pos, pow_mono, pow-add, high, low, shl_exact, shl-shr, shr_lt, mod-pow-add}
use Rattle.below.specs.Below.{bit, ◌=?◌, ◌<?◌, ◌≤?◌, ◌and◌, isnt}
use Rattle.below.proofs.SearchLaws.{<?-true, <?-false, ≤?-true, ≤?-false}
use Rattle.places.specs.declared.places.Places.{Places}
use Rattle.places.specs.Algorithm.Words.{word_of, half_word}
use Rattle.places.specs.Algorithm.Places.{places_where, without_of, has_place}
use Rattle.places.proofs.WordLaws.{shl_one, word_lt, word-ext, word-wider, word_none, and_word}
use Rattle.places.proofs.PlaceLaws.{places, where-ext}

-- ---- a word in two parts

spread : (b u v w l : ℕ) → b * (v * u) + (w * v + l) ≡ (b * u + w) * v + l
spread b u v w l = ap (λ (x : ℕ). x + (w * v + l)) (ap (λ (x : ℕ). b * x) (mul_comm v u) ∙ sym (mul_assoc b u v)) ∙ sym (add_assoc (b * u * v) (w * v) l) ∙ ap (λ (x : ℕ). x + l) (sym (add-mul (b * u) w v))

-- the digits from x on, above those before
pub word_split : (x y : ℕ) (p : ℕ → Bool) → word_of (x + y) p ≡ word_of y (λ k. p (x + k)) * 2 ^ x + word_of x p
unfolding word_of
word_split x zero p = let e : x + 0 ≡ x = omega arith in ap (λ (z : ℕ). word_of z p) e ∙ omega arith
word_split x (suc y) p =
    let e : x + suc y ≡ suc (x + y) = omega arith in
    ap (λ (z : ℕ). word_of z p) e
    ∙ ap₂ (λ (u v : ℕ). bit (p (x + y)) * u + v) (pow-add 2 x y) (word_split x y p)
    ∙ spread (bit (p (x + y))) (2 ^ y) (2 ^ x) (word_of y (λ k. p (x + k))) (word_of x p)

module _ (x y w : ℕ) (p : ℕ → Bool) (e : x + y ≡ w) where
  parts : word_of w p ≡ word_of y (λ k. p (x + k)) * 2 ^ x + word_of x p
  parts = ap (λ (z : ℕ). word_of z p) (sym e) ∙ word_split x y p

  -- shifted down by x
  pub word-down : word_of w p / 2 ^ x ≡ word_of y (λ k. p (x + k))
  word-down = ap (λ (z : ℕ). z / 2 ^ x) parts ∙ high (word_of y (λ k. p (x + k))) x (word_lt x p)

  -- its lowest x digits, shifted up by y
  pub word-up : word_of w p * 2 ^ y % 2 ^ w ≡ word_of x p * 2 ^ y
  word-up =
      let h = word_of y (λ k. p (x + k)) in
      let l = word_of x p in
      let wide : 2 ^ x * 2 ^ y ≡ 2 ^ w = sym (pow-add 2 x y) ∙ ap (λ (z : ℕ). 2 ^ z) e in
      ap (λ (z : ℕ). z * 2 ^ y % 2 ^ w) parts
      ∙ ap (λ (z : ℕ). z % 2 ^ w) (add-mul (h * 2 ^ x) l (2 ^ y) ∙ ap (λ (z : ℕ). z + l * 2 ^ y) (mul_assoc h (2 ^ x) (2 ^ y) ∙ ap (λ (z : ℕ). h * z) wide))
      ∙ mul-add-mod_self_right h (2 ^ w) (l * 2 ^ y)
      ∙ shl_exact x y w (word_lt x p) (omega arith)

-- a digit
pub word-digit : (w c : ℕ) (p : ℕ → Bool) → c < w → word_of w p / 2 ^ c % 2 ≡ bit (p c)
unfolding word_of
word-digit w c p h =
    let y = w - c - 1 in
    let q : ℕ → Bool = λ k. p (c + k) in
    let first : word_of 1 q ≡ bit (p c) = ap (λ (z : ℕ). bit (p z) * 2 ^ 0 + 0) (let e : c + 0 ≡ c = omega arith in e) ∙ omega arith in
    ap (λ (z : ℕ). z % 2) (word-down c (1 + y) w p (omega arith) ∙ word_split 1 y q) ∙ low (word_of y (λ k. q (1 + k))) 1 (word_lt 1 q) ∙ first

minus-digit : (a b : Bool) (u : ℕ) → bit a * u ≡ bit (a and b) * u + bit (a and isnt b) * u
unfolding ◌and◌ isnt
minus-digit true true u = omega arith
minus-digit true false u = omega arith
minus-digit false b u = omega arith

-- what both have, and what the one has alone
word-minus : (w : ℕ) (p q : ℕ → Bool) → word_of w p ≡ word_of w (λ k. p k and q k) + word_of w (λ k. p k and isnt (q k))
unfolding word_of
word-minus zero p q = refl
word-minus (suc w) p q =
    let d = minus-digit (p w) (q w) (2 ^ w) in
    let e = word-minus w p q in
    omega arith

without-word : (w : ℕ) (p q : ℕ → Bool) → word_of w p - bit_and (word_of w p) (word_of w q) ≡ word_of w (λ k. p k and isnt (q k))
without-word w p q = let e = word-minus w p q in let d = and_word w p q in omega arith

-- all digits below k
word-full : (k : ℕ) (p : ℕ → Bool) → ((b : ℕ) → b < k → p b ≡ true) → word_of k p + 1 ≡ 2 ^ k
unfolding word_of
word-full zero p f = refl
word-full (suc k) p f =
    let e = word-full k p (λ b l. f b (omega arith)) in
    ap (λ (b : Bool). bit b * 2 ^ k + word_of k p + 1) (f k (omega arith)) ∙ omega (arith, pow-suc 2 k)

-- the digits below k of 64
pub word_first : (k : ℕ) → k ≤ 64 → 2 ^ k - 1 ≡ word_of 64 (λ b. b <? k)
word_first k h =
    let e = word-full k (λ b. b <? k) (λ b l. <?-true b k l) in
    let x : 2 ^ k - 1 ≡ word_of k (λ b. b <? k) = omega arith in
    x ∙ word-wider k 64 _ _ h (λ b l. refl) (λ b l u. <?-false b k l)

-- ---- sets of places

pub without-of : (p q : ℕ → Bool) → without_of (places_where p) (places_where q) ≡ places_where (λ c. p c and isnt (q c))
unfolding without_of places_where half_word
without-of p q = ap₂ places (without-word 64 _ _) (without-word 64 _ _)

is_one : (b : Bool) → (bit b =? 1) ≡ b
unfolding ◌=?◌
is_one true = refl
is_one false = refl

pub has-where : (p : ℕ → Bool) (c : ℕ) → c < 128 → has_place (places_where p) c ≡ p c
unfolding has_place places_where half_word
has-where p c h = elim (dec_lt c 64) [
  | yes l ↦ rw (<?-true c 64 l, word-digit 64 c (λ b. p (0 * 64 + b)) l) (is_one (p (0 * 64 + c)) ∙ ap p (omega arith))
  | no l ↦ rw (<?-false c 64 (omega arith), word-digit 64 (c - 64) (λ b. p (1 * 64 + b)) (omega arith)) (is_one (p (1 * 64 + (c - 64))) ∙ ap p (omega arith))
]

-- what is shifted up and what comes over from below fit into one word
pub carry-fits : (s a b : ℕ) → s < 64 → b < 2 ^ 64 → a * 2 ^ s % 2 ^ 64 + b / 2 ^ (64 - s) < 2 ^ 64
carry-fits s a b h l =
    let t = 64 - s in
    let e : t + s ≡ 64 = omega arith in
    let d : s + t ≡ 64 = omega arith in
    let up : a * 2 ^ s % 2 ^ 64 ≡ (a % 2 ^ t) * 2 ^ s =
    ap (λ (z : ℕ). a * 2 ^ s % 2 ^ z) (sym e) ∙ mod-pow-add (a * 2 ^ s) t s ∙ ap₂ (λ (x y : ℕ). x % 2 ^ t * 2 ^ s + y) (shl-shr a s) (mul-mod_left a (2 ^ s)) ∙ omega arith in
    rw up (subst (λ (z : ℕ). (a % 2 ^ t) * 2 ^ s + b / 2 ^ t < z) (sym (pow-add 2 t s) ∙ ap (λ (z : ℕ). 2 ^ z) e) (digits_lt (mod-lt a (pow_pos t)) (shr_lt s t (subst (λ (z : ℕ). b < 2 ^ z) (sym d) l))))

-- the places s further up
abbrev pub up_by : ℕ → (ℕ → Bool) → ℕ → Bool
up_by s p c = s ≤? c and p (c - s)

up_in : (s : ℕ) (p : ℕ → Bool) (c k : ℕ) → c ≡ s + k → up_by s p c ≡ p k
unfolding ◌and◌
up_in s p c k e = rw (≤?-true s c (omega arith)) (ap p (omega arith))

up-out : (s : ℕ) (p : ℕ → Bool) (c : ℕ) → c < s → up_by s p c ≡ false
unfolding ◌and◌
up-out s p c h = rw (≤?-false s c h)

-- a word of the places from a on, by its lowest s and its other t
up_word : (a s t : ℕ) (p below above : ℕ → Bool) → s + t ≡ 64 → ((k : ℕ) → k < s → up_by s p (a + k) ≡ below k) → ((k : ℕ) → k < t → up_by s p (a + (s + k)) ≡ above k)
    → word_of 64 (λ b. up_by s p (a + b)) ≡ word_of t above * 2 ^ s + word_of s below
up_word a s t p below above e lo hi =
    ap (λ (z : ℕ). word_of z (λ b. up_by s p (a + b))) (sym e)
    ∙ word_split s t (λ b. up_by s p (a + b))
    ∙ ap₂ (λ (x y : ℕ). x * 2 ^ s + y) (word-ext t _ _ hi) (word-ext s _ _ lo)

-- a word with s digits 0 before it
up_start : (a s t : ℕ) (p above : ℕ → Bool) {u : ℕ} → u + t ≡ 64 → ((k : ℕ) → k < u → up_by s p (a + k) ≡ false) → ((k : ℕ) → k < t → up_by s p (a + (u + k)) ≡ above k)
    → word_of t above * 2 ^ u ≡ word_of 64 (λ b. up_by s p (a + b))
up_start a s t p above {u} e lo hi =
    let none = word_none u (λ b. up_by s p (a + b)) lo in
    sym (ap (λ (z : ℕ). word_of z (λ b. up_by s p (a + b))) (sym e) ∙ word_split u t (λ b. up_by s p (a + b)) ∙ ap (λ (x : ℕ). x * 2 ^ u + word_of u (λ b. up_by s p (a + b))) (word-ext t _ _ hi) ∙ omega arith)

module _ (s : ℕ) (p : ℕ → Bool) {x : Places} (is : x ≡ places_where p) where
  low-is : x.low ≡ word_of 64 (λ b. p (0 * 64 + b))
  unfolding places_where half_word
  low-is = ap (λ (y : Places). y.low) is

  high_is : x.high ≡ word_of 64 (λ b. p (1 * 64 + b))
  unfolding places_where half_word
  high_is = ap (λ (y : Places). y.high) is

  pub up_none : s ≡ 0 → x ≡ places_where (up_by s p)
  up_none e = is ∙ where-ext _ _ (λ c h. sym (up_in s p c c (omega arith)))

  module _ (t : ℕ) (e : t + s ≡ 64) where
    top-is : x.high * 2 ^ s % 2 ^ 64 ≡ word_of t (λ k. p (1 * 64 + k)) * 2 ^ s
    top-is = ap (λ (z : ℕ). z * 2 ^ s % 2 ^ 64) high_is ∙ word-up t s 64 _ e

    carry-is : x.low / 2 ^ t ≡ word_of s (λ k. p (0 * 64 + (t + k)))
    carry-is = ap (λ (z : ℕ). z / 2 ^ t) low-is ∙ word-down t s 64 _ e

    upper : x.high * 2 ^ s % 2 ^ 64 + x.low / 2 ^ t ≡ word_of 64 (λ b. up_by s p (1 * 64 + b))
    upper =
        ap₂ ◌+◌ top-is carry-is
        ∙ sym (up_word (1 * 64) s t p _ _ (omega arith) (λ k h. up_in s p _ _ (omega arith)) (λ k h. up_in s p _ _ (omega arith)))

    -- fewer than 64 further up
    pub up-few : places (x.low * 2 ^ s % 2 ^ 64) (x.high * 2 ^ s % 2 ^ 64 + x.low / 2 ^ t) ≡ places_where (up_by s p)
    unfolding places_where half_word
    up-few =
        ap₂ places
        (ap (λ (z : ℕ). z * 2 ^ s % 2 ^ 64) low-is ∙ word-up t s 64 _ e ∙ up_start (0 * 64) s t p _ (omega arith) (λ k h. up-out s p _ (omega arith)) (λ k h. up_in s p _ _ (omega arith)))
        upper

  -- 64 further up, and more
  pub up-many : (u t : ℕ) → 64 + u ≡ s → t + u ≡ 64 → places 0 (x.low * 2 ^ u % 2 ^ 64) ≡ places_where (up_by s p)
  unfolding places_where half_word
  up-many u t e d =
      ap₂ places (word_none 64 _ (λ b h. up-out s p _ (omega arith)))
      (ap (λ (z : ℕ). z * 2 ^ u % 2 ^ 64) low-is ∙ word-up t u 64 _ d ∙ up_start (1 * 64) s t p _ (omega arith) (λ k h. up-out s p _ (omega arith)) (λ k h. up_in s p _ _ (omega arith)))

  -- 128 further up, and more
  pub up-past : 128 ≤ s → places 0 0 ≡ places_where (up_by s p)
  unfolding places_where half_word
  up-past h = ap₂ places (word_none 64 _ (λ b l. up-out s p _ (omega arith))) (word_none 64 _ (λ b l. up-out s p _ (omega arith)))

-- ---- the first places

-- the word that the code makes of a bit and of the bits before it
pub first_word : (k : ℕ) → k < 64 → (1 ≤ 1 * 2 ^ k % 2 ^ 64) × (1 * 2 ^ k % 2 ^ 64 - 1 ≡ word_of 64 (λ b. b <? k))
first_word k h =
    let one : 1 * 2 ^ k % 2 ^ 64 ≡ 2 ^ k = shl_one k h ∙ omega arith in
    (rw one (pow_pos k), rw one (word_first k (omega arith)))

-- the first n places, from the words of those below 64 and of the others
pub first-places : (n : ℕ) {k l low high : ℕ} → k ≡ min n 64 → l ≡ n - 64 → low ≡ word_of 64 (λ b. b <? k) → high ≡ word_of 64 (λ b. b <? l)
    → places low high ≡ places_where (λ c. c <? n)
unfolding places_where half_word
first-places n {k} {l} ek el e f =
    ap₂ places
    (e ∙ word-ext 64 _ _ (λ b h. elim (dec_lt b n) [
      | yes g ↦ <?-true b k (omega arith) ∙ sym (<?-true _ n (omega arith))
      | no g ↦ <?-false b k (omega arith) ∙ sym (<?-false _ n (omega arith))
    ]))
    (f ∙ word-ext 64 _ _ (λ b h. elim (dec_lt b l) [
      | yes g ↦ <?-true b l g ∙ sym (<?-true _ n (omega arith))
      | no g ↦ <?-false b l (omega arith) ∙ sym (<?-false _ n (omega arith))
    ]))

-- ---- more digits

-- k digits have room above b others
pub few-fit : (k b : ℕ) {more : ℕ} → k + b ≤ 64 → more < 2 ^ k → more < 2 ^ (64 - b)
few-fit k b room h = lt_of_lt_of_le h (pow_mono {i = k} {j = 64 - b} (omega arith))

module _ (b word more : ℕ) (inside : b < 64) (small : word < 2 ^ b) (few : more < 2 ^ (64 - b)) where
  width : 64 - b + b ≡ 64
  width = omega arith

  more-is : more * 2 ^ b % 2 ^ 64 ≡ more * 2 ^ b
  more-is = shl_exact (64 - b) b 64 few (omega arith)

  pub digits-fit : more * 2 ^ b % 2 ^ 64 + word < 2 ^ 64
  digits-fit = rw more-is (subst (λ (z : ℕ). more * 2 ^ b + word < z) (sym (pow-add 2 (64 - b) b) ∙ ap (λ (z : ℕ). 2 ^ z) width) (digits_lt few small))

  pub digits_more : more * 2 ^ b % 2 ^ 64 + word ≡ more * 2 ^ b + word
  digits_more = ap (λ (z : ℕ). z + word) more-is
