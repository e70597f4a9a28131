-- Sets of places: those of two tests joined, how many pass a test below n, and whether one does.
-- Assumes nothing.
use mathlib.Core.Path.{◌≡◌, refl, sym, ap, ap₂, ◌∙◌}
use mathlib.Core.Bool.{Bool, true, false}
use Prim.Native.Nat.{ℕ, ◌+◌, ◌*◌, ◌≤◌, ◌<◌}
use native.Mathlib.Omega.{arith}
use lib.Bits.{and_comm, or_comm}
use Rattle.below.specs.Below.{◌<?◌, ◌and◌, ◌or◌, any_below, count_below}
use Rattle.below.proofs.BelowLaws.{count-ext}
use Rattle.below.proofs.CountLaws.{sum-pos, count-any, count_add, count-within}
use Rattle.places.specs.declared.places.Places.{Places}
use Rattle.places.specs.declared.lines.Line.{Line}
use Rattle.places.specs.Algorithm.Words.{half_word}
use Rattle.places.specs.Algorithm.Places.{places_where, both_places, either_of, size, occupied, conflict_places}
use Rattle.places.proofs.WordLaws.{word-ext, and_word, or_word, ones-word, word-any, either-pos}

-- ---- two words

-- the set that two words are
abbrev pub places : ℕ → ℕ → Places
places low high = record { low = low; high = high }

pub where-ext : (p q : ℕ → Bool) → ((c : ℕ) → c < 128 → p c ≡ q c) → places_where p ≡ places_where q
unfolding places_where half_word
where-ext p q h = ap₂ places (word-ext 64 _ _ (λ b l. h (0 * 64 + b) (omega arith))) (word-ext 64 _ _ (λ b l. h (1 * 64 + b) (omega arith)))

pub both_of : (p q : ℕ → Bool) → both_places (places_where p) (places_where q) ≡ places_where (λ c. p c and q c)
unfolding both_places places_where half_word
both_of p q = ap₂ places (and_word 64 _ _) (and_word 64 _ _)

pub either-of : (p q : ℕ → Bool) → either_of (places_where p) (places_where q) ≡ places_where (λ c. p c or q c)
unfolding either_of places_where half_word
either-of p q = ap₂ places (or_word 64 _ _) (or_word 64 _ _)

pub both-comm : (x y : Places) → both_places x y ≡ both_places y x
unfolding both_places
both-comm x y = ap₂ places (and_comm x.low y.low) (and_comm x.high y.high)

pub either-comm : (x y : Places) → either_of x y ≡ either_of y x
unfolding either_of
either-comm x y = ap₂ places (or_comm x.low y.low) (or_comm x.high y.high)

-- two lines conflict both ways
pub conflict-comm : (x y : Line) → conflict_places x y ≡ conflict_places y x
unfolding conflict_places
conflict-comm x y = ap₂ either_of (both-comm x.a y.b) (both-comm x.b y.a) ∙ either-comm _ _

-- ---- tests of the places below n

-- the place is below n, and passes
abbrev pub up_to : ℕ → (ℕ → Bool) → ℕ → Bool
up_to n p c = c <? n and p c

and-and : (l a b : Bool) → (l and a and (l and b)) ≡ (l and (a and b))
unfolding ◌and◌
and-and true a b = refl
and-and false a b = refl

and-or : (l a b : Bool) → (l and a or l and b) ≡ (l and (a or b))
unfolding ◌and◌ ◌or◌
and-or true a b = refl
and-or false a b = refl

and-swap : (x y z : Bool) → (x and (y and z)) ≡ (y and (x and z))
unfolding ◌and◌
and-swap true true z = refl
and-swap true false z = refl
and-swap false true z = refl
and-swap false false z = refl

module _ (n : ℕ) (p q : ℕ → Bool) where
  pub both_below : both_places (places_where (up_to n p)) (places_where (up_to n q)) ≡ places_where (up_to n (λ c. p c and q c))
  both_below = both_of _ _ ∙ where-ext _ _ (λ c h. and-and (c <? n) (p c) (q c))

  pub either-below : either_of (places_where (up_to n p)) (places_where (up_to n q)) ≡ places_where (up_to n (λ c. p c or q c))
  either-below = either-of _ _ ∙ where-ext _ _ (λ c h. and-or (c <? n) (p c) (q c))

  -- of any places, those below n
  pub some_below : both_places (places_where p) (places_where (up_to n q)) ≡ places_where (up_to n (λ c. p c and q c))
  some_below = both_of _ _ ∙ where-ext _ _ (λ c h. and-swap (p c) (c <? n) (q c))

module _ (n : ℕ) (p : ℕ → Bool) (narrow : n ≤ 128) where
  halves : count_below 64 (λ b. up_to n p (0 * 64 + b)) + count_below 64 (λ b. up_to n p (1 * 64 + b)) ≡ count_below n p
  halves =
      ap₂ ◌+◌ (count-ext 64 _ (up_to n p) (λ b l. ap (up_to n p) (let e : 0 * 64 + b ≡ b = omega arith in e))) refl
      ∙ sym (count_add 64 64 (up_to n p))
      ∙ count-within n 128 p narrow

  pub size_below : size (places_where (up_to n p)) ≡ count_below n p
  unfolding size places_where half_word
  size_below = ap₂ ◌+◌ (ones-word 64 _) (ones-word 64 _) ∙ halves

  pub occupied-below : occupied (places_where (up_to n p)) ≡ any_below n p
  unfolding occupied places_where half_word
  occupied-below =
      either-pos _ _
      ∙ ap₂ ◌or◌ (word-any 64 _ ∙ sym (count-any 64 _)) (word-any 64 _ ∙ sym (count-any 64 _))
      ∙ sym (sum-pos _ _)
      ∙ ap (λ (x : ℕ). 0 <? x) halves
      ∙ count-any n p
