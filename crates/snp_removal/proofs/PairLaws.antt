-- The lines of two columns say whether the columns are in conflict.
-- Assumes nothing.
use Rattle.std.specs.Prelude.{if◌then◌else◌}
use mathlib.Core.Path.{◌≡◌, refl, sym, ap, ap₂, ◌∙◌}
use mathlib.Core.Bool.{Bool, true, false, not}
use mathlib.Core.List.{List}
use mathlib.Core.Logic.{◌⊎◌, inl, inr}
use Prim.Native.Nat.{ℕ, zero, suc, ◌-◌, ◌≤◌, ◌<◌}
use native.Mathlib.Omega.{arith}
use lib.Dec.{T}
use Rattle.below.specs.Below.{◌=?◌, ◌<?◌, ◌and◌, ◌or◌, isnt, any_below}
use Rattle.fields.specs.Record.{is_call_code}
use Rattle.below.proofs.BelowLaws.{both, left-of, right_of, or_left, or_right, or_cases, same_test, =?-eq, =?-refl, eq-=?, isnt-=?, ne-isnt, any-ext}
use Rattle.conflicts.specs.Grid.{Grid, calls_conflict, mixed}
use Rattle.conflicts.specs.Tally.{no_calls, one_more_of, tallied, mixed_tally}
use Rattle.places.specs.declared.places.Places.{Places}
use Rattle.places.specs.declared.lines.Line.{Line}
use Rattle.places.specs.Algorithm.Places.{places_where, occupied, conflict_places, agree_places, both_kinds}
use Rattle.masks.specs.Algorithm.Masks.{has_letter, line_of, line_at, transposed, Masks}
use Rattle.places.proofs.PlaceLaws.{occupied-below}
use Rattle.masks.proofs.LineLaws.{codes_agree, line-at, letter-places, lines-agree, lines-conflict}
use Rattle.snp_removal.specs.Algorithm.Columns.{calls_both, columns_conflict_in, can_follow, words_follow, words_mixed}
use Rattle.snp_removal.proofs.ColumnLaws.{call-cases, same_letter, other_letter, conflict-kinds}

-- ---- two calls

a-call : T (is_call_code 1)
unfolding is_call_code ◌=?◌ ◌or◌
a-call = tt

b-call : T (is_call_code 2)
unfolding is_call_code ◌=?◌ ◌or◌
b-call = tt

-- one letter, and two
module _ (x y : ℕ) where
  one-letter : codes_agree x y ≡ (is_call_code x and is_call_code y and x =? y)
  one-letter = same_test _ _ there (λ t. back (call-cases x (left-of _ _ (left-of _ _ t))) (=?-eq x y (right_of _ _ t)))
    where
      there : T (x =? 1 and y =? 1 or x =? 2 and y =? 2) → T (is_call_code x and is_call_code y and x =? y)
      there t = elim (or_cases _ _ t) [
        | inl s ↦ rw (=?-eq x 1 (left-of _ _ s), =?-eq y 1 (right_of _ _ s)) (both _ _ (both _ _ a-call a-call) (=?-refl 1))
        | inr s ↦ rw (=?-eq x 2 (left-of _ _ s), =?-eq y 2 (right_of _ _ s)) (both _ _ (both _ _ b-call b-call) (=?-refl 2))
      ]

      back : (x ≡ 1) ⊎ (x ≡ 2) → x ≡ y → T (x =? 1 and y =? 1 or x =? 2 and y =? 2)
      back (inl e) f = or_left _ _ (both _ _ (eq-=? x 1 e) (eq-=? y 1 (sym f ∙ e)))
      back (inr e) f = or_right _ _ (both _ _ (eq-=? x 2 e) (eq-=? y 2 (sym f ∙ e)))

  two-letters : calls_conflict x y ≡ (is_call_code x and is_call_code y and isnt (x =? y))
  unfolding calls_conflict
  two-letters =
      same_test _ _ there
      (λ t. back (call-cases x (left-of _ _ (left-of _ _ t))) (call-cases y (right_of _ _ (left-of _ _ t))) (isnt-=? x y (right_of _ _ t)))
    where
      there : T (x =? 1 and y =? 2 or x =? 2 and y =? 1) → T (is_call_code x and is_call_code y and isnt (x =? y))
      there t = elim (or_cases _ _ t) [
        | inl s ↦ rw (=?-eq x 1 (left-of _ _ s), =?-eq y 2 (right_of _ _ s)) (both _ _ (both _ _ a-call b-call) (ne-isnt 1 2 (λ e. omega arith)))
        | inr s ↦ rw (=?-eq x 2 (left-of _ _ s), =?-eq y 1 (right_of _ _ s)) (both _ _ (both _ _ b-call a-call) (ne-isnt 2 1 (λ e. omega arith)))
      ]

      back : (x ≡ 1) ⊎ (x ≡ 2) → (y ≡ 1) ⊎ (y ≡ 2) → (x ≡ y → ⊥) → T (x =? 1 and y =? 2 or x =? 2 and y =? 1)
      back (inl e) (inl f) ne = absurd (ne (e ∙ sym f))
      back (inl e) (inr f) ne = or_left _ _ (both _ _ (eq-=? x 1 e) (eq-=? y 2 f))
      back (inr e) (inl f) ne = or_right _ _ (both _ _ (eq-=? x 2 e) (eq-=? y 1 f))
      back (inr e) (inr f) ne = absurd (ne (e ∙ sym f))

-- ---- two columns

module _ (g : Grid) (lines : List Line) (a c : ℕ) (masks : Masks (transposed g) lines) (ha : a < g.n) (hc : c < g.n) where
  -- they have both kinds of fragments exactly if they are in conflict
  words-conflict : both_kinds (line_at lines a) (line_at lines c) ≡ columns_conflict_in g a c
  unfolding both_kinds transposed same_letter other_letter calls_both
  words-conflict =
      let t = transposed g in
      let la = line-at t a masks ha in
      let lc = line-at t c masks hc in
      ap₂ ◌and◌
      (ap occupied (ap₂ agree_places la lc ∙ lines-agree t a c ha hc) ∙ occupied-below g.m _ masks.narrow ∙ any-ext g.m _ _ (λ f l. one-letter (g.cell f a) (g.cell f c)))
      (ap occupied (ap₂ conflict_places la lc ∙ lines-conflict t a c ha hc) ∙ occupied-below g.m _ masks.narrow ∙ any-ext g.m _ _ (λ f l. two-letters (g.cell f a) (g.cell f c)))
      ∙ sym (conflict-kinds g a c)

-- whether a column is mixed
words-mixed : (g : Grid) (lines : List Line) (c : ℕ) → Masks (transposed g) lines → c < g.n → words_mixed lines c ≡ mixed g c
unfolding words_mixed mixed transposed line_of
words-mixed g lines c masks h = ap₂ ◌and◌ (one 1 (λ l. l.a) refl) (one 2 (λ l. l.b) refl)
  where
    one : (letter : ℕ) (part : Line → Places) → part (line_of (transposed g) c) ≡ places_where (has_letter (transposed g) letter c) → occupied (part (line_at lines c)) ≡ any_below g.m (λ i. g.cell i c =? letter)
    one letter part e = ap (λ (l : Line). occupied (part l)) (line-at (transposed g) c masks h) ∙ ap occupied (e ∙ letter-places (transposed g) letter c h) ∙ occupied-below g.m _ masks.narrow

-- a tally of one call of each letter that occurs
letters-tally : (a b : Bool) → mixed_tally (tallied (tallied no_calls (if a then 1 else 0)) (if b then 2 else 0)) ≡ (a and b)
unfolding mixed_tally tallied one_more_of ◌and◌ ◌=?◌ ◌<?◌
letters-tally true true = refl
letters-tally true false = refl
letters-tally false true = refl
letters-tally false false = refl

pub tally-is : (lines : List Line) (c : ℕ) {a b : Bool} {x y : ℕ} → a ≡ occupied (line_at lines c).a → b ≡ occupied (line_at lines c).b → x ≡ (if a then 1 else 0) → y ≡ (if b then 2 else 0)
    → mixed_tally (tallied (tallied no_calls x) y) ≡ words_mixed lines c
unfolding words_mixed
tally-is lines c {a} {b} ea eb ex ey = rw (ex, ey) (letters-tally a b ∙ ap₂ ◌and◌ ea eb)

pub mixed-is : (g : Grid) (lines : List Line) (c : ℕ) {r : Bool} → Masks (transposed g) lines → c < g.n → r ≡ words_mixed lines c → mixed g c ≡ r
mixed-is g lines c masks h e = sym (e ∙ words-mixed g lines c masks h)

-- ---- states

pub words-follow : (g : Grid) (lines : List Line) (j c : ℕ) → Masks (transposed g) lines → j ≤ c → c < g.n → words_follow lines j c ≡ can_follow g j c
unfolding words_follow can_follow
words-follow g lines zero c masks le h = refl
words-follow g lines (suc a) c masks le h = ap isnt (words-conflict g lines a c masks (omega arith) h)

pub follows-none : (lines : List Line) (j c : ℕ) → j ≡ 0 → true ≡ words_follow lines j c
unfolding words_follow
follows-none lines j c e = rw e

pub follows-last : (lines : List Line) (j c : ℕ) (b : Bool) → (j ≡ 0 → ⊥)
    → b ≡ both_kinds (line_at lines (j - 1)) (line_at lines c) → not b ≡ words_follow lines j c
unfolding words_follow isnt
follows-last lines zero c b ne e = absurd (ne refl)
follows-last lines (suc j) c b ne e = ap not (e ∙ ap (λ (a : ℕ). both_kinds (line_at lines a) (line_at lines c)) (let q : suc j - 1 ≡ j = omega arith in q))
