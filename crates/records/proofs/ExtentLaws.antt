-- Where the columns that pass a test start and over how many they reach; the calls of a row.
-- Assumes nothing.
use mathlib.Core.Path.{◌≡◌}
use mathlib.Core.Logic.{◌⊎◌, inl, inr}
use mathlib.Core.Bool.{Bool}
use Prim.Native.Nat.{ℕ, zero, suc, ◌+◌, ◌-◌, ◌≤◌, ◌<◌, zero-le}
use native.Mathlib.Nat.{not-suc-le-zero, eq-zero-or-pos, eq-or-lt_of_le, le_of_suc-le-suc}
use native.Mathlib.Decide.{dec_le}
use native.Mathlib.Omega.{arith}
use lib.Dec.{T}
use Rattle.below.specs.Below.{first_below, end_below, any_below, ◌=?◌, isnt}
use Rattle.fields.specs.Record.{is_call_code}
use Rattle.fields.specs.Writing.{calls_end_of, calls_start_of, calls_span_of, without_calls}
use Rattle.records.specs.Rules.{gap_in}
use Rattle.below.proofs.BelowLaws.{both, left-of, right_of, or_left, or_right, or_cases, same_test, T-isnt, isnt-T, if-ind, if-true, if-false, =?-eq, =?-refl, eq-=?, ne-isnt, <?-lt, lt-<?, any_below-of, any_below-at, none-at, none_of, first_below-at, first_below-least}

-- ---- the end of the numbers that pass

pub end_below-le : (n : ℕ) (p : ℕ → Bool) → end_below n p ≤ n
unfolding end_below
end_below-le zero p = zero-le
end_below-le (suc n) p = let h = end_below-le n p in if-ind (λ k. k ≤ suc n) (p n) (λ t. omega arith) (λ t. omega arith)

pub end_below-at : (n : ℕ) (p : ℕ → Bool) → 0 < end_below n p → T (p (end_below n p - 1))
unfolding end_below
end_below-at zero p = λ h. absurd (not-suc-le-zero h)
end_below-at (suc n) p =
    if-ind (λ k. 0 < k → T (p (k - 1))) (p n) (λ t h. let e : suc n - 1 ≡ n = omega arith in rw e t) (λ t h. end_below-at n p h)

pub end_below-past : (n : ℕ) (p : ℕ → Bool) (j : ℕ) → j < n → T (p j) → j < end_below n p
unfolding end_below
end_below-past zero p j h t = absurd (not-suc-le-zero h)
end_below-past (suc n) p j h t =
    let deeper : j < n → j < end_below n p = λ l. end_below-past n p j l t in
    if-ind (λ k. j < k) (p n) (λ s. h) (λ s. low deeper s (eq-or-lt_of_le (le_of_suc-le-suc h)))
  where
    low : {r : ℕ} → (j < n → j < r) → T (isnt (p n)) → (j ≡ n) ⊎ (j < n) → j < r
    low f s (inl e) = absurd (T-isnt (p n) s (rw e at t))
    low f s (inr l) = f l

-- ---- the extent of the numbers that pass

-- of the numbers below n, those that pass start at f and reach over s numbers
pub record Extent (n : ℕ) (p : ℕ → Bool) (f s : ℕ) : Type 0 where
  pub fits : f + s ≤ n
  pub none : s ≡ 0 → f ≡ 0
  pub first : 0 < s → T (p f)
  pub last : 0 < s → T (p (f + (s - 1)))
  pub before : (c : ℕ) → c < f → T (isnt (p c))
  pub after : (c : ℕ) → f + s ≤ c → c < n → T (isnt (p c))

-- one that passes lies inside
module _ {n : ℕ} {p : ℕ → Bool} {f s : ℕ} (x : Extent n p f s) where
  pub extent-low : (c : ℕ) → T (p c) → f ≤ c
  extent-low c t = elim (dec_le f c) [ yes l ↦ l | no l ↦ absurd (T-isnt (p c) (x.before c (omega arith)) t) ]

  pub extent-high : (c : ℕ) → c < n → T (p c) → c < f + s
  extent-high c h t = elim (dec_le (f + s) c) [ yes l ↦ absurd (T-isnt (p c) (x.after c l h) t) | no l ↦ omega arith ]

-- there is one extent
module _ {n : ℕ} {p : ℕ → Bool} where
  within : {f s g t : ℕ} → Extent n p f s → Extent n p g t → 0 < s → (g ≤ f) × (f + s ≤ g + t)
  within {f} {s} x y h =
      let w = x.fits in
      let b = extent-high y (f + (s - 1)) (omega arith) (x.last h) in
      (extent-low y f (x.first h), omega arith)

  pub extent-one : {f s g t : ℕ} → Extent n p f s → Extent n p g t → (f ≡ g) × (s ≡ t)
  extent-one {f} {s} {g} {t} x y = elim (eq-zero-or-pos s) [
    | inl e ↦ elim (eq-zero-or-pos t) [
      | inl z ↦ let a = x.none e in let b = y.none z in (omega arith, omega arith)
      | inr k ↦ let a = x.none e in let b = within y x k in absurd (omega arith)
    ]
    | inr h ↦ elim (eq-zero-or-pos t) [
      | inl z ↦ let a = y.none z in let b = within x y h in absurd (omega arith)
      | inr k ↦ let a = within x y h in let b = within y x k in (omega arith, omega arith)
    ]
  ]

-- ---- the calls of a row

-- a code that is a call
pub call-range : (x : ℕ) → T (is_call_code x) → (0 < x) × (x ≤ 2)
unfolding is_call_code
call-range x t = elim (or_cases (x =? 1) (x =? 2) t) [
  | inl s ↦ let e = =?-eq x 1 s in (omega arith, omega arith)
  | inr s ↦ let e = =?-eq x 2 s in (omega arith, omega arith)
]

pub call-of : (x : ℕ) → 0 < x → x ≤ 2 → T (is_call_code x)
unfolding is_call_code
call-of zero h l = absurd (omega arith)
call-of (suc zero) h l = or_left (1 =? 1) (1 =? 2) (=?-refl 1)
call-of (suc (suc zero)) h l = or_right (2 =? 1) (2 =? 2) (=?-refl 2)
call-of (suc (suc (suc x))) h l = absurd (omega arith)

pub no_call : (x : ℕ) → x ≡ 0 → T (isnt (is_call_code x))
no_call x e = isnt-T (is_call_code x) (λ t. let g = call-range x t in absurd (omega arith))

-- a code with a meaning that is no call is a hole
pub hole-of : (x : ℕ) → x ≤ 2 → T (isnt (is_call_code x)) → x ≡ 0
hole-of x h t = elim (eq-zero-or-pos x) [ inl e ↦ e | inr g ↦ absurd (T-isnt (is_call_code x) t (call-of x g h)) ]

abbrev pub calls : (ℕ → ℕ) → ℕ → Bool
calls row c = is_call_code (row c)

module _ (n : ℕ) (row : ℕ → ℕ) where
  pub start_none : calls_end_of n row ≡ 0 → calls_start_of n row ≡ 0
  unfolding calls_start_of
  start_none e = if-true (calls_end_of n row =? 0) _ _ (eq-=? _ _ e)

  pub start-some : 0 < calls_end_of n row → calls_start_of n row ≡ first_below n (calls row)
  unfolding calls_start_of
  start-some h = if-false (calls_end_of n row =? 0) _ _ (ne-isnt (calls_end_of n row) 0 (λ e. omega arith))

  past_end : (c : ℕ) → calls_end_of n row ≤ c → c < n → T (isnt (is_call_code (row c)))
  unfolding calls_end_of
  past_end c h l = isnt-T (is_call_code (row c)) (λ t. let g = end_below-past n (calls row) c l t in absurd (omega arith))

  pub extent-of : Extent n (calls row) (calls_start_of n row) (calls_span_of n row)
  unfolding calls_span_of calls_end_of
  extent-of = elim (eq-zero-or-pos (calls_end_of n row)) [ inl e ↦ empty e | inr h ↦ full h ]
    where
      empty : calls_end_of n row ≡ 0 → Extent n (calls row) (calls_start_of n row) (calls_end_of n row - calls_start_of n row)
      empty e =
          let b = start_none e in
          record {
            fits = omega arith;
            none = λ z. b;
            first = λ h. absurd (omega arith);
            last = λ h. absurd (omega arith);
            before = λ c l. absurd (omega arith);
            after = λ c l k. past_end c (omega arith) k;
          }

      full : 0 < calls_end_of n row → Extent n (calls row) (calls_start_of n row) (calls_end_of n row - calls_start_of n row)
      full h =
          let b = start-some h in
          let le = end_below-le n (calls row) in
          let last = end_below-at n (calls row) h in
          let low = first_below-least n (calls row) (calls_end_of n row - 1) (omega arith) last in
          let e : calls_start_of n row + (calls_end_of n row - calls_start_of n row - 1) ≡ calls_end_of n row - 1 = omega arith in
          record {
            fits = omega arith;
            none = λ z. absurd (omega arith);
            first = λ g. rw b (first_below-at n (calls row) (omega arith));
            last = λ g. rw e last;
            before = λ c l. isnt-T (is_call_code (row c)) (λ t. let g = first_below-least n (calls row) c (omega arith) t in absurd (omega arith));
            after = λ c l k. past_end c (omega arith) k;
          }

  -- a row has no call exactly if its calls reach over no column
  pub none-called : without_calls n row ≡ (calls_span_of n row =? 0)
  unfolding without_calls
  none-called =
      let x = extent-of in
      let w = x.fits in
      same_test _ _
      (λ t. elim (eq-zero-or-pos (calls_span_of n row)) [ inl e ↦ eq-=? _ _ e | inr h ↦ absurd (T-isnt _ (none-at n (calls row) t (calls_start_of n row) (omega arith)) (x.first h)) ])
      (λ t. let e = =?-eq _ _ t in let z = x.none e in none_of n (calls row) (λ c l. x.after c (omega arith) l))

-- a hole stands between two calls exactly if the calls reach over it
module _ (n : ℕ) (row : ℕ → ℕ) (f s : ℕ) (x : Extent n (calls row) f s) where
  abbrev hole_at : ℕ → Bool
  hole_at k = row (f + k) =? 0

  gap-inside : T (gap_in n row) → T (any_below s hole_at)
  unfolding gap_in
  gap-inside t =
      let c = any_below-at n _ t in
      let a = any_below-at c.0 _ (right_of _ _ (left-of _ _ c.2)) in
      let b = any_below-at n _ (right_of _ _ c.2) in
      let low = extent-low x a.0 a.2 in
      let high = extent-high x b.0 b.1 (right_of _ _ b.2) in
      let over = <?-lt c.0 b.0 (left-of _ _ b.2) in
      let e : f + (c.0 - f) ≡ c.0 = omega arith in
      any_below-of s hole_at (c.0 - f) (omega arith) (rw e (left-of _ _ (left-of _ _ c.2)))

  inside-gap : T (any_below s hole_at) → T (gap_in n row)
  unfolding gap_in
  inside-gap t =
      let k = any_below-at s hole_at t in
      let hole = =?-eq (row (f + k.0)) 0 k.2 in
      let w = x.fits in
      let first = x.first (omega arith) in
      let last = x.last (omega arith) in
      let apart : (j : ℕ) → T (is_call_code (row j)) → f + k.0 ≡ j → ⊥ = λ j u e. T-isnt (is_call_code (row j)) (no_call (row j) (rw e at hole)) u in
      let a = apart f first in
      let b = apart (f + (s - 1)) last in
      let low : f < f + k.0 = omega arith in
      let high : f + k.0 < f + (s - 1) = omega arith in
      any_below-of n _ (f + k.0) (omega arith)
      (both _ _
      (both _ _ k.2 (any_below-of (f + k.0) _ f low first))
      (any_below-of n _ (f + (s - 1)) (omega arith) (both _ _ (lt-<? _ _ high) last)))

  pub gap_within : gap_in n row ≡ any_below s (λ k. row (f + k) =? 0)
  gap_within = same_test (gap_in n row) (any_below s hole_at) gap-inside inside-gap
