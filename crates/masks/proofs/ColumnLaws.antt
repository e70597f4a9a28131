-- The lines of a matrix's columns, and the matrix that lines are those of.
-- Assumes nothing.
use Rattle.std.specs.Prelude.{if◌then◌else◌}
use mathlib.Core.Path.{◌≡◌, refl, ap, ap₂, ◌∙◌}
use mathlib.Core.Bool.{Bool, true, false}
use mathlib.Core.List.{List}
use Prim.Native.Nat.{ℕ, ◌+◌, ◌*◌, ◌≤◌, ◌<◌}
use native.Mathlib.Omega.{arith}
use Rattle.below.specs.Below.{◌=?◌, ◌<?◌, ◌and◌}
use Rattle.below.proofs.SearchLaws.{<?-true}
use Rattle.conflicts.specs.Grid.{Grid}
use Rattle.places.specs.declared.lines.Line.{Line}
use Rattle.places.specs.Algorithm.Words.{word_of, half_word}
use Rattle.places.specs.Algorithm.Places.{places_where, has_place}
use Rattle.places.proofs.WordLaws.{word-ext}
use Rattle.places.proofs.PlaceLaws.{places}
use Rattle.places.proofs.ShiftLaws.{has-where}
use Rattle.masks.specs.Algorithm.Masks.{has_letter, line_of, line_at, transposed, Masks, code_in}
use Rattle.masks.proofs.LineLaws.{line, line-is}
use Rattle.masks.proofs.RecordLaws.{three}

-- a code by its two letters
code_of : (x : ℕ) → x ≤ 2 → (if x =? 1 then 1 else (if x =? 2 then 2 else 0)) ≡ x
unfolding ◌=?◌
code_of = three (λ x. (if x =? 1 then 1 else (if x =? 2 then 2 else 0)) ≡ x) refl refl refl

swapped : (a b x : Bool) → (a and b and x) ≡ (b and a and x)
unfolding ◌and◌
swapped true true x = refl
swapped true false x = refl
swapped false true x = refl
swapped false false x = refl

module _ (g : Grid) {lines : List Line} (masks : Masks g lines) where
  -- a place of line i
  pub has-a : (i c : ℕ) → i < 128 → c < 128 → has_place (line_at lines i).a c ≡ has_letter g 1 i c
  unfolding line_of
  has-a i c h l = ap (λ (x : Line). has_place x.a c) (line-is g i masks h) ∙ has-where (has_letter g 1 i) c l

  pub has-b : (i c : ℕ) → i < 128 → c < 128 → has_place (line_at lines i).b c ≡ has_letter g 2 i c
  unfolding line_of
  has-b i c h l = ap (λ (x : Line). has_place x.b c) (line-is g i masks h) ∙ has-where (has_letter g 2 i) c l

  -- a column's words, each of 64 fragments
  module _ (c : ℕ) (h : c < 128) where
    half-a : (start half : ℕ) {w : ℕ} → start ≡ half * 64 → half ≤ 1 → w ≡ word_of 64 (λ b. has_place (line_at lines (start + b)).a c) → w ≡ half_word (has_letter (transposed g) 1 c) half
    unfolding half_word has_letter transposed
    half-a start half e l is = is ∙ word-ext 64 _ _ (λ b u. has-a (start + b) c (omega arith) h ∙ ap (λ (i : ℕ). i <? g.m and c <? g.n and g.cell i c =? 1) (omega arith) ∙ swapped _ _ _)

    half-b : (start half : ℕ) {w : ℕ} → start ≡ half * 64 → half ≤ 1 → w ≡ word_of 64 (λ b. has_place (line_at lines (start + b)).b c) → w ≡ half_word (has_letter (transposed g) 2 c) half
    unfolding half_word has_letter transposed
    half-b start half e l is = is ∙ word-ext 64 _ _ (λ b u. has-b (start + b) c (omega arith) h ∙ ap (λ (i : ℕ). i <? g.m and c <? g.n and g.cell i c =? 2) (omega arith) ∙ swapped _ _ _)

    pub column-is : {a1 a2 b1 b2 : ℕ} → a1 ≡ word_of 64 (λ b. has_place (line_at lines (0 + b)).a c) → a2 ≡ word_of 64 (λ b. has_place (line_at lines (64 + b)).a c)
        → b1 ≡ word_of 64 (λ b. has_place (line_at lines (0 + b)).b c) → b2 ≡ word_of 64 (λ b. has_place (line_at lines (64 + b)).b c)
        → line (places a1 a2) (places b1 b2) ≡ line_of (transposed g) c
    unfolding line_of places_where
    column-is x y z w =
        ap₂ line (ap₂ places (half-a 0 0 (omega arith) (omega arith) x) (half-a 64 1 (omega arith) (omega arith) y))
        (ap₂ places (half-b 0 0 (omega arith) (omega arith) z) (half-b 64 1 (omega arith) (omega arith) w))

  -- ---- the matrix of the lines

  module _ (codes : (i c : ℕ) → i < g.m → c < g.n → g.cell i c ≤ 2) where
    -- each code
    pub words-cell : (i c : ℕ) → i < g.m → c < g.n → code_in (line_at lines i) c ≡ g.cell i c
    unfolding code_in has_letter ◌and◌
    words-cell i c hi hc =
        let few = masks.few in
        let narrow = masks.narrow in
        ap₂ (λ (a b : Bool). if a then 1 else (if b then 2 else 0)) (has-a i c (omega arith) (omega arith) ∙ inside 1) (has-b i c (omega arith) (omega arith) ∙ inside 2)
        ∙ code_of (g.cell i c) (codes i c hi hc)
      where
        inside : (letter : ℕ) → (i <? g.m and c <? g.n and g.cell i c =? letter) ≡ (g.cell i c =? letter)
        inside letter = rw (<?-true i g.m hi, <?-true c g.n hc)
