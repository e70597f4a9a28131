-- The words of a record are the letters of its cells.
-- Assumes nothing.
use mathlib.Core.Path.{◌≡◌, sym, ap, ap₂, ◌∙◌}
use mathlib.Core.Bool.{Bool, false}
use mathlib.Core.List.{List, [], ◌∷◌}
use Prim.Native.Nat.{ℕ, ◌+◌, ◌*◌, ◌/◌, ◌%◌, ◌^◌, ◌≤◌, ◌<◌}
use native.Mathlib.Omega.{arith}
use lib.ListN.{get_or}
use lib.Dec.{T}
use Rattle.below.specs.Below.{◌=?◌, ◌≤?◌, ◌and◌, all_below}
use Rattle.below.proofs.BelowLaws.{left-of, right_of, =?-eq, ≤?-le, all_below-at}
use Rattle.places.specs.declared.places.Places.{Places}
use Rattle.places.specs.declared.lines.Line.{Line}
use Rattle.places.specs.Algorithm.Words.{word_of, half_word}
use Rattle.places.proofs.WordLaws.{word_lt, word-ext, word-wider}
use Rattle.places.proofs.ShiftLaws.{word_split}
use Rattle.fields.specs.Record.{cell_of}
use Rattle.fields.specs.Algorithm.Letters.{has_a, has_b, fours_of}
use Rattle.fields.proofs.ByteLaws.{cell-past}
use Rattle.fields.proofs.FieldLaws.{cell-of-byte}

-- ---- the letters of a byte, by one test of all bytes

-- the letters of half a byte
unfoldable pub twos : List ℕ
twos = 0 ∷ 1 ∷ 16 ∷ 17 ∷ 2 ∷ 3 ∷ 18 ∷ 19 ∷ 32 ∷ 33 ∷ 48 ∷ 49 ∷ 34 ∷ 35 ∷ 50 ∷ 51 ∷ []

sound : ℕ → Bool
sound x = get_or twos (x % 16) 0 + 4 * get_or twos (x / 16) 0 =? fours_of x and get_or twos (x / 16) 0 ≤? 51 and get_or twos (x % 16) 0 ≤? 51

all_sound : T (all_below 256 sound)
unfolding sound twos fours_of word_of has_a has_b ◌=?◌ ◌≤?◌ ◌and◌ all_below
all_sound = tt

pub fours-at : (x : ℕ) → x < 256 → (get_or twos (x % 16) 0 + 4 * get_or twos (x / 16) 0 ≡ fours_of x) × (get_or twos (x / 16) 0 ≤ 51) × (get_or twos (x % 16) 0 ≤ 51)
unfolding sound
fours-at x h =
    let t = all_below-at 256 sound all_sound x h in
    let u = left-of _ _ t in
    (=?-eq _ _ (left-of _ _ u), ≤?-le _ _ (right_of _ _ u), ≤?-le _ _ (right_of _ _ t))

-- the two parts of an entry
module _ (x : ℕ) {four : ℕ} (is : four ≡ fours_of x) where
  pub fours-a : four % 16 ≡ word_of 4 (λ q. has_a (x / 4 ^ q % 4))
  unfolding fours_of
  fours-a = let h = word_lt 4 (λ q. has_a (x / 4 ^ q % 4)) in omega arith

  pub fours-b : four / 16 ≡ word_of 4 (λ q. has_b (x / 4 ^ q % 4))
  unfolding fours_of
  fours-b = let h = word_lt 4 (λ q. has_a (x / 4 ^ q % 4)) in omega arith

-- a word with the four cells of byte from + j more
module _ (r : List ℕ) (test : ℕ → Bool) (from j : ℕ) (within : from + j < 24) {x four word next : ℕ} (byte : x ≡ get_or r (8 + from + j) 0) (is : four ≡ word_of 4 (λ q. test (x / 4 ^ q % 4))) where
  pub four-next : word ≡ word_of (4 * j) (λ k. test (cell_of r (4 * from + k))) → next ≡ four * 2 ^ (4 * j) + word → next ≡ word_of (4 * (j + 1)) (λ k. test (cell_of r (4 * from + k)))
  four-next e n =
      let b : 8 + from + j ≡ 8 + (from + j) = omega arith in
      let size : 4 * j + 4 ≡ 4 * (j + 1) = omega arith in
      let cells = word-ext 4 (λ q. test (x / 4 ^ q % 4)) (λ q. test (cell_of r (4 * from + (4 * j + q))))
      (λ q l. ap test (cell-of-byte r (from + j) q x within l (byte ∙ ap (λ (k : ℕ). get_or r k 0) b) ∙ ap (cell_of r) (omega arith))) in
      n ∙ ap₂ (λ (u v : ℕ). u * 2 ^ (4 * j) + v) (is ∙ cells) e ∙ sym (word_split (4 * j) 4 (λ k. test (cell_of r (4 * from + k)))) ∙ ap (λ (w : ℕ). word_of w (λ k. test (cell_of r (4 * from + k)))) size

-- the line of two sets
abbrev pub line : Places → Places → Line
line a b = record { a = a; b = b }

-- the two words of a record
module _ (r : List ℕ) (test : ℕ → Bool) (none : test 0 ≡ false) where
  pub low_word : {w : ℕ} → w ≡ word_of (4 * 16) (λ k. test (cell_of r (4 * 0 + k))) → w ≡ half_word (λ k. test (cell_of r k)) 0
  unfolding half_word
  low_word e = e ∙ word-ext 64 _ _ (λ b h. ap (λ (k : ℕ). test (cell_of r k)) (omega arith))

  pub high_word : {w : ℕ} → w ≡ word_of (4 * 8) (λ k. test (cell_of r (4 * 16 + k))) → w ≡ half_word (λ k. test (cell_of r k)) 1
  unfolding half_word
  high_word e =
      e ∙ word-wider 32 64 _ _ (omega arith) (λ b h. ap (λ (k : ℕ). test (cell_of r k)) (omega arith)) (λ b l h. ap test (cell-past r (1 * 64 + b) (omega arith)) ∙ none)
