-- What a loop over a row's columns has found when it ends or returns.
-- Assumes nothing.
use mathlib.Core.Path.{◌≡◌, refl, sym, ap, ap₂, ◌∙◌}
use mathlib.Core.Logic.{inl, inr}
use mathlib.Core.Bool.{Bool, true, ◌||◌}
use Prim.Native.Nat.{ℕ, zero, suc, ◌+◌, ◌-◌, ◌≤◌, ◌<◌}
use native.Mathlib.Nat.{eq-zero-or-pos}
use native.Mathlib.Decide.{dec_le}
use native.Mathlib.Omega.{arith}
use lib.Dec.{T, ltb}
use Rattle.below.specs.Below.{◌<?◌, ◌or◌, isnt, any_below, end_below, first_below}
use Rattle.fields.specs.Record.{is_call_code}
use Rattle.fields.specs.Writing.{calls_end_of, calls_start_of, calls_span_of}
use Rattle.below.proofs.BelowLaws.{if-true, if-false, first_below-at, first_below-least}
use Rattle.below.proofs.SearchLaws.{NoneBelow, any-more, true-T, false-T}
use Rattle.records.proofs.ExtentLaws.{calls, end_below-le, end_below-at, end_below-past, start_none, start-some, extent-of}

suc-sub : (c : ℕ) → suc c - 1 ≡ c
suc-sub c = omega arith

-- ---- from column 0 on

pub start-hit : (n : ℕ) (row : ℕ → ℕ) (c : ℕ) → c < n → NoneBelow c (calls row) → is_call_code (row c) ≡ true → c ≡ calls_start_of n row
unfolding calls_end_of
start-hit n row c h before e =
    let t = true-T e in
    let some = end_below-past n (calls row) c h t in
    let low = first_below-least n (calls row) c h t in
    let at = first_below-at n (calls row) (omega arith) in
    let f = first_below n (calls row) in
    let high : f < c → ⊥ = λ l. false-T (before.none_passes f l) at in
    let s = start-some n row (omega arith) in
    omega arith

pub start-miss : (n : ℕ) (row : ℕ → ℕ) (c : ℕ) → n ≤ c → NoneBelow c (calls row) → 0 ≡ calls_start_of n row
unfolding calls_end_of
start-miss n row c h t = elim (eq-zero-or-pos (end_below n (calls row))) [
  | inl e ↦ sym (start_none n row e)
  | inr g ↦
      let le = end_below-le n (calls row) in
      absurd (false-T (t.none_passes (end_below n (calls row) - 1) (omega arith)) (end_below-at n (calls row) g))
]

-- the codes without a meaning
abbrev pub unknown : (ℕ → ℕ) → ℕ → Bool
unknown row c = 2 <? row c

-- whether one of them stands before a column, from one column to the next
pub unknown-more : (row : ℕ → ℕ) (c code : ℕ) (found : Bool) → found ≡ any_below c (unknown row) → code ≡ row c → (found || ltb 2 code) ≡ any_below (c + 1) (unknown row)
unfolding ◌or◌ ◌<?◌
unknown-more row c code found e d = ap₂ ◌||◌ e (ap (ltb 2) d) ∙ sym (any-more (unknown row) c)

-- the calls lie within the row
pub span_fits : (n : ℕ) (row : ℕ → ℕ) (start span : ℕ) → start ≡ calls_start_of n row → span ≡ calls_span_of n row → start + span ≤ n
span_fits n row start span e d = let w = (extent-of n row).fits in omega arith

-- ---- from the last column down

pub end-hit : (row : ℕ → ℕ) (e : ℕ) → 0 < e → T (is_call_code (row (e - 1))) → calls_end_of e row ≡ e
unfolding calls_end_of end_below
end-hit row zero h t = refl
end-hit row (suc c) h t = if-true (is_call_code (row c)) _ _ (rw (suc-sub c) at t)

pub end-miss : (row : ℕ → ℕ) (e : ℕ) → 0 < e → T (isnt (is_call_code (row (e - 1)))) → calls_end_of e row ≡ calls_end_of (e - 1) row
unfolding calls_end_of end_below
end-miss row zero h t = refl
end-miss row (suc c) h t = rw (suc-sub c) (if-false (is_call_code (row c)) _ _ (rw (suc-sub c) at t))

pub end_none : (row : ℕ → ℕ) → calls_end_of 0 row ≡ 0
unfolding calls_end_of end_below
end_none row = refl

-- ---- both

pub start-le-end : (n : ℕ) (row : ℕ → ℕ) → calls_start_of n row ≤ calls_end_of n row
unfolding calls_span_of
start-le-end n row = elim (eq-zero-or-pos (calls_end_of n row)) [
  | inl e ↦ let z = start_none n row e in omega arith
  | inr h ↦ let f = (extent-of n row).none in elim (dec_le (calls_start_of n row) (calls_end_of n row)) [ yes l ↦ l | no l ↦ let z = f (omega arith) in omega arith ]
]
