-- Columns in conflict by kinds of fragments: those with one letter at both columns, and those with two (paper 001, section 3.1); Lemma 17.
-- Assumes nothing.
use mathlib.Core.Path.{◌≡◌, sym, ◌∙◌}
use mathlib.Core.Logic.{◌⊎◌, inl, inr}
use mathlib.Core.Bool.{Bool}
use Prim.Native.Nat.{ℕ, ◌≤◌, ◌<◌}
use native.Mathlib.Decide.{ℕ_discrete}
use native.Mathlib.Omega.{arith}
use lib.Dec.{T}
use Rattle.below.specs.Below.{◌=?◌, ◌and◌, isnt, any_below}
use Rattle.fields.specs.Record.{is_call_code}
use Rattle.records.specs.Rules.{gap_in}
use Rattle.below.proofs.BelowLaws.{both, left-of, right_of, or_left, or_right, or_cases, T-isnt, isnt-T, same_test, =?-eq, =?-refl, isnt-=?, lt-<?, all_below-at, any_below-at, any_below-of}
use Rattle.conflicts.specs.Grid.{Grid, gapless}
use Rattle.snp_removal.specs.Algorithm.Columns.{calls_both, negation, columns_conflict_in}
use Rattle.matrix.specs.Algorithm.Matrix.{Gapless}

-- ---- letters

pub call-cases : (x : ℕ) → T (is_call_code x) → (x ≡ 1) ⊎ (x ≡ 2)
unfolding is_call_code
call-cases x t = go (or_cases _ _ t)
  where
    go : T (x =? 1) ⊎ T (x =? 2) → (x ≡ 1) ⊎ (x ≡ 2)
    go (inl s) = inl (=?-eq _ _ s)
    go (inr s) = inr (=?-eq _ _ s)

pub call-bounds : (x : ℕ) → T (is_call_code x) → (1 ≤ x) × (x ≤ 2)
call-bounds x t = go (call-cases x t)
  where
    go : (x ≡ 1) ⊎ (x ≡ 2) → (1 ≤ x) × (x ≤ 2)
    go (inl e) = (omega arith, omega arith)
    go (inr e) = (omega arith, omega arith)

pub bounds-call : (x : ℕ) → 1 ≤ x → x ≤ 2 → T (is_call_code x)
unfolding is_call_code
bounds-call x lo hi = elim (ℕ_discrete x 1) [ yes e ↦ or_left _ _ (rw e (=?-refl 1)) | no ne ↦ let e : x ≡ 2 = omega arith in or_right _ _ (rw e (=?-refl 2)) ]

-- exactly one of two equations holds
abbrev pub OneOnly : ℕ → ℕ → ℕ → ℕ → Type 0
OneOnly x y z w = ((x ≡ y) × (z ≡ w → ⊥)) ⊎ ((x ≡ y → ⊥) × (z ≡ w))

-- what one value being the negation of another says of two equations
negation-cases : (x y z w : ℕ) → T (negation (x =? y) (z =? w)) → OneOnly x y z w
unfolding negation
negation-cases x y z w t = go (or_cases _ _ t)
  where
    go : T (x =? y and isnt (z =? w)) ⊎ T (isnt (x =? y) and z =? w) → OneOnly x y z w
    go (inl s) = inl (=?-eq _ _ (left-of _ _ s), isnt-=? _ _ (right_of _ _ s))
    go (inr s) = inr (isnt-=? _ _ (left-of _ _ s), =?-eq _ _ (right_of _ _ s))

negation-of : (x y z w : ℕ) → OneOnly x y z w → T (negation (x =? y) (z =? w))
unfolding negation
negation-of x y z w (inl p) = or_left _ _ (both _ _ (rw p.0 (=?-refl y)) (isnt-T _ λ t. p.1 (=?-eq _ _ t)))
negation-of x y z w (inr p) = or_right _ _ (both _ _ (isnt-T _ λ t. p.0 (=?-eq _ _ t)) (rw p.1 (=?-refl w)))

-- ---- columns in conflict

-- two fragments that show columns a and c in conflict
pub record Shown (g : Grid) (a c : ℕ) : Type 0 where
  pub f : ℕ
  pub h : ℕ
  pub f_in : f < g.m
  pub h_in : h < g.m
  pub f_calls : T (is_call_code (g.cell f a)) × T (is_call_code (g.cell f c))
  pub h_calls : T (is_call_code (g.cell h a)) × T (is_call_code (g.cell h c))
  pub differ : OneOnly (g.cell f a) (g.cell h a) (g.cell f c) (g.cell h c)

pub conflict-shown : (g : Grid) (a c : ℕ) → T (columns_conflict_in g a c) → Shown g a c
unfolding columns_conflict_in calls_both
conflict-shown g a c t =
    let p = any_below-at g.m _ t in
    let q = any_below-at g.m _ p.2 in
    let calls = left-of _ _ q.2 in
    record {
      f = p.0;
      h = q.0;
      f_in = p.1;
      h_in = q.1;
      f_calls = (left-of _ _ (left-of _ _ calls), right_of _ _ (left-of _ _ calls));
      h_calls = (left-of _ _ (right_of _ _ calls), right_of _ _ (right_of _ _ calls));
      differ = negation-cases _ _ _ _ (right_of _ _ q.2);
    }

pub shown-conflict : (g : Grid) (a c : ℕ) → Shown g a c → T (columns_conflict_in g a c)
unfolding columns_conflict_in calls_both
shown-conflict g a c s =
    any_below-of g.m _ s.f s.f_in (any_below-of g.m _ s.h s.h_in
    (both _ _ (both _ _ (both _ _ s.f_calls.0 s.f_calls.1) (both _ _ s.h_calls.0 s.h_calls.1)) (negation-of _ _ _ _ s.differ)))

-- ---- the kinds of fragments

-- a fragment that calls both columns with one letter; with two letters
unfoldable pub same_letter : Grid → ℕ → ℕ → ℕ → Bool
same_letter g a c f = calls_both g a c f and g.cell f a =? g.cell f c

unfoldable pub other_letter : Grid → ℕ → ℕ → ℕ → Bool
other_letter g a c f = calls_both g a c f and isnt (g.cell f a =? g.cell f c)

-- columns are in conflict exactly if both kinds occur
pub conflict-kinds : (g : Grid) (a c : ℕ) → columns_conflict_in g a c ≡ (any_below g.m (same_letter g a c) and any_below g.m (other_letter g a c))
unfolding same_letter other_letter calls_both
conflict-kinds g a c = same_test _ _ (λ t. there (conflict-shown g a c t)) back
  where
    alike : (f : ℕ) → f < g.m → T (is_call_code (g.cell f a)) → T (is_call_code (g.cell f c)) → g.cell f a ≡ g.cell f c → T (any_below g.m (same_letter g a c))
    alike f hf u v e = any_below-of g.m _ f hf (both _ _ (both _ _ u v) (rw e (=?-refl (g.cell f c))))

    unlike : (f : ℕ) → f < g.m → T (is_call_code (g.cell f a)) → T (is_call_code (g.cell f c)) → (g.cell f a ≡ g.cell f c → ⊥) → T (any_below g.m (other_letter g a c))
    unlike f hf u v ne = any_below-of g.m _ f hf (both _ _ (both _ _ u v) (isnt-T _ λ t. ne (=?-eq _ _ t)))

    there : Shown g a c → T (any_below g.m (same_letter g a c) and any_below g.m (other_letter g a c))
    there s = go (ℕ_discrete (g.cell s.f a) (g.cell s.f c)) (ℕ_discrete (g.cell s.h a) (g.cell s.h c)) s.differ
      where
        bounds : (x y : ℕ) → T (is_call_code x) × T (is_call_code y) → ((1 ≤ x) × (x ≤ 2)) × ((1 ≤ y) × (y ≤ 2))
        bounds x y p = (call-bounds x p.0, call-bounds y p.1)

        go : Dec (g.cell s.f a ≡ g.cell s.f c) → Dec (g.cell s.h a ≡ g.cell s.h c)
            → OneOnly (g.cell s.f a) (g.cell s.h a) (g.cell s.f c) (g.cell s.h c)
            → T (any_below g.m (same_letter g a c) and any_below g.m (other_letter g a c))
        go (yes p) (no q) d = both _ _ (alike s.f s.f_in s.f_calls.0 s.f_calls.1 p) (unlike s.h s.h_in s.h_calls.0 s.h_calls.1 q)
        go (no p) (yes q) d = both _ _ (alike s.h s.h_in s.h_calls.0 s.h_calls.1 q) (unlike s.f s.f_in s.f_calls.0 s.f_calls.1 p)
        go (yes p) (yes q) (inl d) = absurd (d.1 (sym p ∙ d.0 ∙ q))
        go (yes p) (yes q) (inr d) = absurd (d.0 (p ∙ d.1 ∙ sym q))
        go (no p) (no q) (inl d) = absurd (d.1 (let u = d.0 in omega (arith, bounds _ _ s.f_calls, bounds _ _ s.h_calls)))
        go (no p) (no q) (inr d) = absurd (d.0 (let u = d.1 in omega (arith, bounds _ _ s.f_calls, bounds _ _ s.h_calls)))

    back : T (any_below g.m (same_letter g a c) and any_below g.m (other_letter g a c)) → T (columns_conflict_in g a c)
    back t =
        let p = any_below-at g.m _ (left-of _ _ t) in
        let q = any_below-at g.m _ (right_of _ _ t) in
        let fa = left-of _ _ (left-of _ _ p.2) in
        let fc = right_of _ _ (left-of _ _ p.2) in
        let ha = left-of _ _ (left-of _ _ q.2) in
        let hc = right_of _ _ (left-of _ _ q.2) in
        shown-conflict g a c (record {
          f = p.0;
          h = q.0;
          f_in = p.1;
          h_in = q.1;
          f_calls = (fa, fc);
          h_calls = (ha, hc);
          differ = opposed _ _ _ _ (=?-eq _ _ (right_of _ _ p.2)) (isnt-=? _ _ (right_of _ _ q.2)) (call-bounds _ fa) (call-bounds _ ha) (call-bounds _ hc);
        })
      where
        opposed : (x z y w : ℕ) → x ≡ z → (y ≡ w → ⊥) → (1 ≤ x) × (x ≤ 2) → (1 ≤ y) × (y ≤ 2) → (1 ≤ w) × (w ≤ 2) → OneOnly x y z w
        opposed x z y w e ne bx by bw = elim (ℕ_discrete x y) [ yes p ↦ inl (p, λ q. ne (sym p ∙ e ∙ q)) | no p ↦ inr (p, omega arith) ]

-- ---- gapless tables

-- a fragment that calls two columns calls every column between
pub between : (g : Grid) → Gapless g → (f a c b : ℕ) → f < g.m → a < c → c < b → b < g.n → T (is_call_code (g.cell f a)) → T (is_call_code (g.cell f b)) → T (is_call_code (g.cell f c))
unfolding gapless gap_in
between g w f a c b hf lo hi hb ca cb = go (ℕ_discrete (g.cell f c) 0)
  where
    go : Dec (g.cell f c ≡ 0) → T (is_call_code (g.cell f c))
    go (no ne) = bounds-call (g.cell f c) (omega arith) (w.codes f c hf (omega arith))
    go (yes e) =
        absurd (T-isnt _ (all_below-at g.m _ w.no_gap f hf) (any_below-of g.n _ c (omega arith)
        (both _ _ (both _ _ (rw e (=?-refl 0)) (any_below-of c _ a lo ca)) (any_below-of g.n _ b hb (both _ _ (lt-<? c b hi) cb)))))

-- Lemma 17: of three columns, if the first is not in conflict with the second nor the second with the third, neither is the first with the third
pub lemma-17 : (g : Grid) → Gapless g → (a b c : ℕ) → a < b → b < c → c < g.n → T (isnt (columns_conflict_in g a b)) → T (isnt (columns_conflict_in g b c))
    → T (isnt (columns_conflict_in g a c))
lemma-17 g w a b c lo hi hc left right = isnt-T _ λ t. go (conflict-shown g a c t)
  where
    go : Shown g a c → ⊥
    go s = split (ℕ_discrete (g.cell s.f b) (g.cell s.h b)) s.differ
      where
        middle : (i : ℕ) → i < g.m → T (is_call_code (g.cell i a)) × T (is_call_code (g.cell i c)) → T (is_call_code (g.cell i b))
        middle i hi' calls = between g w i a b c hi' lo hi hc calls.0 calls.1

        never : (x y : ℕ) → T (isnt (columns_conflict_in g x y)) → ((i : ℕ) → i < g.m → T (is_call_code (g.cell i a)) × T (is_call_code (g.cell i c)) → T (is_call_code (g.cell i x)) × T (is_call_code (g.cell i y)))
            → OneOnly (g.cell s.f x) (g.cell s.h x) (g.cell s.f y) (g.cell s.h y) → ⊥
        never x y n calls d = T-isnt _ n (shown-conflict g x y (record {
          f = s.f;
          h = s.h;
          f_in = s.f_in;
          h_in = s.h_in;
          f_calls = calls s.f s.f_in s.f_calls;
          h_calls = calls s.h s.h_in s.h_calls;
          differ = d;
        }))

        first : OneOnly (g.cell s.f a) (g.cell s.h a) (g.cell s.f b) (g.cell s.h b) → ⊥
        first = never a b left (λ i l calls. (calls.0, middle i l calls))

        second : OneOnly (g.cell s.f b) (g.cell s.h b) (g.cell s.f c) (g.cell s.h c) → ⊥
        second = never b c right (λ i l calls. (middle i l calls, calls.1))

        split : Dec (g.cell s.f b ≡ g.cell s.h b)
            → OneOnly (g.cell s.f a) (g.cell s.h a) (g.cell s.f c) (g.cell s.h c) → ⊥
        split (yes e) (inl d) = second (inl (e, d.1))
        split (yes e) (inr d) = first (inr (d.0, e))
        split (no ne) (inl d) = first (inl (d.0, ne))
        split (no ne) (inr d) = second (inr (ne, d.1))
