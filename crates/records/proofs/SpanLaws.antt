-- A record's rules 5 to 8 as tests of its letters.
-- Assumes nothing.
use mathlib.Core.Path.{◌≡◌, refl, sym, ap, ap₂, ◌∙◌}
use mathlib.Core.Bool.{Bool, true, false}
use mathlib.Core.List.{List}
use Prim.Native.Nat.{ℕ, ◌≤◌, ◌<◌}
use native.Mathlib.Decide.{dec_lt}
use native.Mathlib.Omega.{arith}
use Rattle.below.specs.Below.{◌=?◌, ◌<?◌, ◌≤?◌, ◌and◌, ◌or◌, isnt, any_below}
use Rattle.below.proofs.BelowLaws.{isnt-isnt, not-both, none-at, neither, fails, =?-eq, le-≤?}
use Rattle.below.proofs.SearchLaws.{<?-true, <?-false, ≤?-true, ≤?-false, =?-false}
use Rattle.places.specs.declared.places.Places.{Places}
use Rattle.places.specs.declared.lines.Line.{Line}
use Rattle.places.specs.Algorithm.Places.{places_where, both_places, either_of, without_of, has_place, occupied}
use Rattle.places.proofs.PlaceLaws.{where-ext, both_of, either-of, up_to, occupied-below}
use Rattle.places.proofs.ShiftLaws.{without-of, has-where}
use Rattle.fields.specs.Record.{span_of, grade_of, cell_of}
use Rattle.fields.specs.Algorithm.Letters.{has_a, has_b, letters_in, calls_of}
use Rattle.fields.proofs.ByteLaws.{four, cell-small, cell-past}
use Rattle.records.specs.Rules.{has_stray_bits, has_unknown_call, has_open_end, gapped}
use Rattle.records.proofs.FaultLaws.{gapped-holes}

-- ---- the bits of a code

either-bit : (x : ℕ) → x < 4 → (has_a x or has_b x) ≡ isnt (x =? 0)
unfolding has_a has_b ◌or◌ isnt ◌=?◌
either-bit = four (λ x. (has_a x or has_b x) ≡ isnt (x =? 0)) refl refl refl refl

both_bits : (x : ℕ) → x < 4 → (has_a x and has_b x) ≡ (x =? 3)
unfolding has_a has_b ◌and◌ ◌=?◌
both_bits = four (λ x. (has_a x and has_b x) ≡ (x =? 3)) refl refl refl refl

isnt-not : (b : Bool) → isnt (isnt b) ≡ b
unfolding isnt
isnt-not true = refl
isnt-not false = refl

and_comm : (a b : Bool) → (a and b) ≡ (b and a)
unfolding ◌and◌
and_comm true true = refl
and_comm true false = refl
and_comm false true = refl
and_comm false false = refl

not-below : (a b : ℕ) → isnt (a <? b) ≡ (b ≤? a)
unfolding isnt
not-below a b = elim (dec_lt a b) [ yes l ↦ rw (<?-true a b l, ≤?-false b a l) | no l ↦ rw (<?-false a b (omega arith), ≤?-true b a (omega arith)) ]

-- the test passes at some place, and at none from n on
somewhere : (n : ℕ) (p q : ℕ → Bool) → n ≤ 128 → ((c : ℕ) → c < n → p c ≡ q c) → ((c : ℕ) → n ≤ c → c < 128 → p c ≡ false) → occupied (places_where p) ≡ any_below n q
unfolding ◌and◌
somewhere n p q wide same none =
    ap occupied (where-ext p (up_to n q) (λ c h. elim (dec_lt c n) [
      | yes l ↦ rw (<?-true c n l) (same c l)
      | no l ↦ rw (<?-false c n (omega arith)) (none c (omega arith) h)
    ])) ∙ occupied-below n q wide

-- a hole is no call
no_call : (b : Bool) → (isnt (0 =? 0) and b) ≡ false
unfolding isnt ◌=?◌ ◌and◌
no_call b = refl

module _ (r : List ℕ) where
  -- the cells after the span, where 5 is kept
  cell-after : has_stray_bits r ≡ false → (k : ℕ) → span_of r ≤ k → cell_of r k ≡ 0
  unfolding has_stray_bits
  cell-after kept k l = elim (dec_lt k 96) [
    | yes h ↦ =?-eq _ _ (isnt-isnt _ (not-both _ _ (none-at 96 _ (neither _ _ (fails refl kept)).1 k h) (le-≤? _ _ l)))
    | no h ↦ cell-past r k (omega arith)
  ]

  -- the cells that have a letter
  pub calls_are : {letters : Line} → letters ≡ letters_in r → either_of letters.a letters.b ≡ calls_of r
  unfolding letters_in calls_of
  calls_are e = ap (λ (l : Line). either_of l.a l.b) e ∙ either-of _ _ ∙ where-ext _ _ (λ c h. either-bit (cell_of r c) (cell-small r c))

  module _ {calls inside : Places} (called : calls ≡ calls_of r) (spanned : inside ≡ places_where (λ c. c <? span_of r)) where
    stray-cells : occupied (without_of calls inside) ≡ any_below 96 (λ k. span_of r ≤? k and isnt (cell_of r k =? 0))
    unfolding calls_of
    stray-cells =
        ap occupied (ap₂ without_of called spanned ∙ without-of (λ k. isnt (cell_of r k =? 0)) (λ c. c <? span_of r))
        ∙ somewhere 96 _ _ (omega arith) (λ c h. ap (λ (b : Bool). isnt (cell_of r c =? 0) and b) (not-below c (span_of r)) ∙ and_comm _ _)
        (λ c l h. ap (λ (x : ℕ). isnt (x =? 0) and isnt (c <? span_of r)) (cell-past r c l) ∙ no_call (isnt (c <? span_of r)))

    pub stray-graded : {g : ℕ} → g ≡ grade_of r → 15 < g → true ≡ has_stray_bits r
    unfolding has_stray_bits ◌or◌
    stray-graded e h = rw (<?-true 15 (grade_of r) (omega arith))

    pub stray-called : {g : ℕ} → g ≡ grade_of r → g ≤ 15 → occupied (without_of calls inside) ≡ has_stray_bits r
    unfolding has_stray_bits ◌or◌
    stray-called e h = rw (<?-false 15 (grade_of r) (omega arith)) stray-cells

    -- a hole of the span, where 6 and 7 are kept
    pub holes-gapped : span_of r ≤ 96 → has_unknown_call r ≡ false → has_open_end r ≡ false → occupied (without_of inside calls) ≡ gapped r
    unfolding calls_of ◌and◌
    holes-gapped wide known shut =
        ap occupied (ap₂ without_of spanned called ∙ without-of (λ c. c <? span_of r) (λ k. isnt (cell_of r k =? 0)))
        ∙ somewhere (span_of r) _ (λ k. cell_of r k =? 0) (omega arith) (λ c h. rw (<?-true c (span_of r) h) (isnt-not (cell_of r c =? 0))) (λ c l h. rw (<?-false c (span_of r) l))
        ∙ sym (gapped-holes r known shut)

  -- a code with both bits, where 5 is kept
  pub unknown-both : {letters : Line} → letters ≡ letters_in r → span_of r ≤ 96 → has_stray_bits r ≡ false → occupied (both_places letters.a letters.b) ≡ has_unknown_call r
  unfolding letters_in has_unknown_call
  unknown-both e wide kept =
      ap (λ (l : Line). occupied (both_places l.a l.b)) e
      ∙ ap occupied (both_of (λ k. has_a (cell_of r k)) (λ k. has_b (cell_of r k)))
      ∙ somewhere (span_of r) _ (λ k. cell_of r k =? 3) (omega arith) (λ c h. both_bits (cell_of r c) (cell-small r c))
      (λ c l h. ap (λ (x : ℕ). has_a x and has_b x) (cell-after kept c l) ∙ both_bits 0 (omega arith) ∙ =?-false 0 3 (λ q. omega arith))

  -- whether a cell is a hole
  has-call : {calls : Places} → calls ≡ calls_of r → (k : ℕ) → k < 128 → has_place calls k ≡ isnt (cell_of r k =? 0)
  unfolding calls_of
  has-call e k h = ap (λ (x : Places). has_place x k) e ∙ has-where _ k h

  module _ {calls : Places} (called : calls ≡ calls_of r) (k : ℕ) (h : k < 128) where
    pub hole-is : (cell_of r k =? 0) ≡ isnt (has_place calls k)
    hole-is = sym (ap isnt (has-call called k h) ∙ isnt-not (cell_of r k =? 0))

    pub a_call : has_place calls k ≡ true → (cell_of r k =? 0) ≡ false
    unfolding isnt
    a_call e = hole-is ∙ ap isnt e

    pub a-hole : has_place calls k ≡ false → (cell_of r k =? 0) ≡ true
    unfolding isnt
    a-hole e = hole-is ∙ ap isnt e
