-- What is read of a fragment's lines and of a side's state.
-- Assumes nothing.
use Rattle.std.specs.Prelude.{if◌then◌else◌}
use mathlib.Core.Path.{◌≡◌, refl, sym, ap, ap₂, subst, ◌∙◌}
use mathlib.Core.Bool.{Bool, true, false}
use mathlib.Core.List.{List}
use Prim.Native.Nat.{ℕ, zero, suc, ◌-◌, ◌^◌, ◌≤◌, ◌<◌}
use native.Mathlib.Nat.{le_refl}
use native.Mathlib.Omega.{arith}
use lib.Dec.{T, eqb}
use mir.Val.{bool_byte}
use Rattle.below.specs.Below.{bit, ◌=?◌, ◌<?◌, ◌and◌, ◌or◌, isnt, first_below, end_below}
use Rattle.below.proofs.BelowLaws.{left-of, right_of, <?-lt, first_below-at}
use Rattle.below.proofs.SearchLaws.{T_true, <?-true}
use Rattle.below.proofs.TestLaws.{and-true}
use Rattle.below.proofs.EndLaws.{first-clear, end-ext, end-within}
use Rattle.fields.specs.Record.{is_call_code}
use Rattle.fields.specs.Writing.{calls_end_of, calls_start_of}
use Rattle.records.proofs.ExtentLaws.{calls}
use Rattle.writing.proofs.ScanLaws.{start-hit, start-miss}
use Rattle.conflicts.specs.Grid.{Grid, conflict_on, conflict, agree}
use Rattle.places.specs.declared.lines.Line.{Line}
use Rattle.places.specs.declared.places.Places.{Places}
use Rattle.places.specs.Algorithm.Places.{places_where, both_places, either_of, has_place, occupied, conflict_places}
use Rattle.places.proofs.PlaceLaws.{up_to, where-ext, both_of, either-of, occupied-below}
use Rattle.places.proofs.ShiftLaws.{has-where}
use Rattle.places.proofs.ZeroLaws.{set_is}
use Rattle.masks.specs.Algorithm.Masks.{line_at, Masks, code_in, words_grid}
use Rattle.masks.proofs.LineLaws.{line-at, lines-conflict}
use Rattle.fragment_states.specs.Algorithm.Fragments.{reach, state_reach_of, can_join, words_agree, words_join}

-- ---- the calls of a line

letter-call : (a b : Bool) → is_call_code (if a then 1 else (if b then 2 else 0)) ≡ (a or b)
unfolding is_call_code ◌=?◌ ◌or◌
letter-call true b = refl
letter-call false true = refl
letter-call false false = refl

-- each word of a line fits
pub record LineFits (line : Line) : Type 0 where
  pub a_low : line.a.low < 2 ^ 64
  pub a_high : line.a.high < 2 ^ 64
  pub b_low : line.b.low < 2 ^ 64
  pub b_high : line.b.high < 2 ^ 64

abbrev called : ℕ → Line → ℕ → Bool
called n line = up_to n (calls (code_in line))

pub calls_are : (n : ℕ) (line : Line) {before letters set : Places} → LineFits line → before ≡ places_where (λ c. c <? n) → letters ≡ either_of line.a line.b → set ≡ both_places before letters → set ≡ places_where (called n line)
unfolding code_in
calls_are n line fits first either both =
    let letters = either ∙ ap₂ either_of (set_is line.a fits.a_low fits.a_high) (set_is line.b fits.b_low fits.b_high) ∙ either-of _ _ in
    both ∙ ap₂ both_places first letters ∙ both_of _ _ ∙ where-ext _ _ (λ c h. ap (λ (t : Bool). c <? n and t) (sym (letter-call (has_place line.a c) (has_place line.b c))))

-- the first of them, and the end
module _ (n : ℕ) (line : Line) {set : Places} (narrow : n ≤ 128) (is : set ≡ places_where (called n line)) where
  has : (c : ℕ) → c < 128 → has_place set c ≡ called n line c
  has c h = ap (λ (s : Places). has_place s c) is ∙ has-where _ c h

  pub calls-end : end_below 128 (has_place set) ≡ calls_end_of n (code_in line)
  unfolding calls_end_of
  calls-end = end-ext 128 _ _ has ∙ end-within n 128 _ narrow

  none : (k : ℕ) → k < first_below 128 (has_place set) → k < n → is_call_code (code_in line k) ≡ false
  none k l h = and-true _ (<?-true k n h) ∙ sym (has k (omega arith)) ∙ (first-clear 128 (has_place set)).none_passes k l

  pub first-called : first_below 128 (has_place set) < 128 → first_below 128 (has_place set) ≡ calls_start_of n (code_in line)
  first-called h =
      let t = subst T (has _ h) (first_below-at 128 (has_place set) h) in
      let l = <?-lt _ n (left-of _ _ t) in
      start-hit n (code_in line) _ l (record { none_passes = λ k g. none k g (omega arith) }) (T_true _ (right_of _ _ t))

  pub never-called : 128 ≤ first_below 128 (has_place set) → 0 ≡ calls_start_of n (code_in line)
  never-called h = start-miss n (code_in line) n (le_refl n) (record { none_passes = λ k g. none k (omega arith) g })

-- ---- a side's state

suc-of : (s : ℕ) → 0 < s → s ≡ suc (s - 1)
suc-of s h = omega arith

pub state-none : (g : Grid) (s : ℕ) → s ≡ 0 → 0 ≡ state_reach_of g s
unfolding state_reach_of
state-none g s e = rw e

pub state-some : (m n : ℕ) (lines : List Line) (s : ℕ) {r : ℕ} → 0 < s → r ≡ calls_end_of n (code_in (line_at lines (s - 1))) → r ≡ state_reach_of (words_grid m n lines) s
unfolding reach state_reach_of words_grid
state-some m n lines s h e = e ∙ ap (state_reach_of (words_grid m n lines)) (sym (suc-of s h))

-- ---- agreement by the lines of the fragments

-- a byte of a test
pub byte-bit : (b : Bool) → bool_byte b ≡ bit b
byte-bit true = refl
byte-bit false = refl

module _ (lines : List Line) (s i : ℕ) where
  pub join-none : s ≡ 0 → eqb s 0 ≡ words_join lines s i
  unfolding words_join
  join-none e = rw e

  pub join-some : {b : Bool} → 0 < s → b ≡ words_agree lines (s - 1) i → b ≡ words_join lines s i
  unfolding words_join
  join-some h is = is ∙ ap (λ (x : ℕ). words_join lines x i) (sym (suc-of s h))

-- the lines of a matrix say which of its fragments agree
words-agree : (g : Grid) (lines : List Line) (p q : ℕ) → Masks g lines → p < g.m → q < g.m → words_agree lines p q ≡ agree g p q
unfolding words_agree agree conflict conflict_on
words-agree g lines p q masks hp hq =
    ap isnt (ap occupied (ap₂ conflict_places (line-at g p masks hp) (line-at g q masks hq) ∙ lines-conflict g p q hp hq) ∙ occupied-below g.n _ masks.narrow)

pub words-join : (g : Grid) (lines : List Line) (s i : ℕ) → Masks g lines → s ≤ i → i < g.m → words_join lines s i ≡ can_join g s i
unfolding words_join can_join
words-join g lines zero i masks le h = refl
words-join g lines (suc j) i masks le h = words-agree g lines j i masks (omega arith) h
