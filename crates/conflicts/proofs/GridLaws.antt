-- Conflicts of calls and of fragments.
-- Assumes nothing.
use mathlib.Core.Path.{◌≡◌, refl, sym, ◌∙◌}
use mathlib.Core.Logic.{◌↔◌, ◌⊎◌, inl, inr}
use mathlib.Core.Bool.{true, false}
use mathlib.Core.List.{[], ◌∷◌}
use Prim.Native.Nat.{ℕ}
use native.Mathlib.Omega.{arith}
use lib.Dec.{T}
use Rattle.below.specs.Below.{◌=?◌, ◌and◌, ◌or◌}
use Rattle.fields.specs.Record.{is_call_code}
use Rattle.below.proofs.BelowLaws.{both, left-of, right_of, or_left, or_right, or_cases, =?-eq, any_below-at, any_below-of, isnt-T, T-isnt}
use Rattle.conflicts.specs.Grid.{Grid, calls_conflict, conflict, agree}
use Rattle.conflicts.specs.Minimality.{everything, TwoClasses, AgreeingClasses}

-- calls and holes against A: only B conflicts
conflicts-with-A : calls_conflict 0 1 ∷ calls_conflict 1 1 ∷ calls_conflict 2 1 ∷ calls_conflict 3 1 ∷ [] ≡ false ∷ false ∷ true ∷ false ∷ []
unfolding calls_conflict ◌=?◌ ◌and◌ ◌or◌
conflicts-with-A = refl

-- a hole is no call
pub hole-no-call : T (is_call_code 0) → ⊥
unfolding is_call_code ◌=?◌ ◌or◌
hole-no-call t = t

-- two calls that do not conflict are one letter
pub calls-agree : (x y : ℕ) → T (is_call_code x) → T (is_call_code y) → (T (calls_conflict x y) → ⊥) → x ≡ y
unfolding is_call_code calls_conflict
calls-agree x y s t apart = go (or_cases _ _ s) (or_cases _ _ t)
  where
    go : T (x =? 1) ⊎ T (x =? 2) → T (y =? 1) ⊎ T (y =? 2) → x ≡ y
    go (inl a) (inl b) = =?-eq x 1 a ∙ sym (=?-eq y 1 b)
    go (inl a) (inr b) = absurd (apart (or_left _ _ (both _ _ a b)))
    go (inr a) (inl b) = absurd (apart (or_right _ _ (both _ _ a b)))
    go (inr a) (inr b) = =?-eq x 2 a ∙ sym (=?-eq y 2 b)

-- conflicts are mutual, and no call conflicts with itself
pub conflict-back : (x y : ℕ) → T (calls_conflict x y) → T (calls_conflict y x)
unfolding calls_conflict
conflict-back x y t = go (or_cases _ _ t)
  where
    go : T (x =? 1 and y =? 2) ⊎ T (x =? 2 and y =? 1) → T (y =? 1 and x =? 2 or y =? 2 and x =? 1)
    go (inl s) = or_right _ _ (both _ _ (right_of _ _ s) (left-of _ _ s))
    go (inr s) = or_left _ _ (both _ _ (right_of _ _ s) (left-of _ _ s))

pub conflict-self : (x : ℕ) → T (calls_conflict x x) → ⊥
unfolding calls_conflict
conflict-self x t = go (or_cases _ _ t)
  where
    apart : T (x =? 1) → T (x =? 2) → ⊥
    apart a b = let p = =?-eq x 1 a in let q = =?-eq x 2 b in omega arith

    go : T (x =? 1 and x =? 2) ⊎ T (x =? 2 and x =? 1) → ⊥
    go (inl s) = apart (left-of _ _ s) (right_of _ _ s)
    go (inr s) = apart (right_of _ _ s) (left-of _ _ s)

-- two classes without conflicts are two classes of fragments that agree
pub classes-agree : (g : Grid) → TwoClasses g everything everything ↔ AgreeingClasses g
unfolding agree conflict
classes-agree g = (
  λ w. record {
    class = w.class;
    agrees = λ i j hi hj e. isnt-T _ (λ t. let k = any_below-at g.n _ t in w.apart i j k.0 hi hj k.1 tt tt tt e k.2);
  },
  λ w. record {
    class = w.class;
    apart = λ i j c hi hj hc ki kj kept e clash. T-isnt _ (w.agrees i j hi hj e) (any_below-of g.n _ c hc clash);
  },
)
