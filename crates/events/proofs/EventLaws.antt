-- The least weight over the events: no sides weigh less, some sides weigh that, and it looks only at the fragments that cover a column still to be charged.
-- Assumes nothing.
use mathlib.Core.Path.{◌≡◌, refl, sym, ap, ap₂, ◌∙◌}
use mathlib.Core.Logic.{◌⊎◌, inl, inr}
use mathlib.Core.Bool.{Bool}
use mathlib.Core.List.{List, [], ◌∷◌}
use Prim.Native.Nat.{ℕ, suc, ◌+◌, ◌*◌, ◌-◌, ◌≤◌, ◌<◌, zero-le}
use native.Mathlib.Nat.{le_trans, le_of_eq, add-le-add}
use native.Mathlib.Omega.{arith}
use lib.Dec.{T}
use Rattle.ranks.specs.Algorithm.Weight.{top}
use Rattle.events.specs.Algorithm.Weights.{column_weight}
use Rattle.events.specs.Algorithm.Events.{Event, enter, charge, with_value, least_event_weight}
use Rattle.events.proofs.LeastLaws.{least_to-le, least_to-at, least_to-ext, value_same, value-other, each}

-- ---- lists of events

-- the fragment does not enter
unfoldable pub Absent : ℕ → List Event → Type 0
Absent x [] = Unit {0}
Absent x (enter f ∷ es) = (x ≡ f → ⊥) × Absent x es
Absent x (charge c ∷ es) = Absent x es

module _ (cover : ℕ → ℕ → Bool) where
  -- the fragment covers a column that is charged before it enters, if it does
  unfoldable pub Live : ℕ → List Event → Type 0
  Live x [] = ⊥
  Live x (enter f ∷ es) = (x ≡ f → ⊥) × Live x es
  Live x (charge c ∷ es) = T (cover c x) ⊎ Live x es

  -- no fragment enters twice, nor after a column that it covers is charged; the columns are below n
  unfoldable pub Ordered : ℕ → List Event → Type 0
  Ordered n [] = Unit {0}
  Ordered n (enter f ∷ es) = Absent f es × Ordered n es
  Ordered n (charge c ∷ es) = (c < n) × ((x : ℕ) → T (cover c x) → Absent x es) × Ordered n es

-- what given sides of all fragments weigh over the events
module _ (on_side : ℕ → ℕ → ℕ) (at_column : ℕ → (ℕ → ℕ) → ℕ) where
  unfoldable pub total_weight : List Event → (ℕ → ℕ) → ℕ
  total_weight [] t = 0
  total_weight (enter f ∷ es) t = on_side f (t f) + total_weight es t
  total_weight (charge c ∷ es) t = at_column c t + total_weight es t

-- what a column weighs looks only at the sides of the fragments that cover it
pub record Local (n : ℕ) (cover : ℕ → ℕ → Bool) (at_column : ℕ → (ℕ → ℕ) → ℕ) : Type 0 where
  pub local : (c : ℕ) → c < n → (s t : ℕ → ℕ) → ((x : ℕ) → T (cover c x) → s x ≡ t x) → at_column c s ≡ at_column c t

-- so does the weight of its cost
pub local-weight : {n : ℕ} {cover : ℕ → ℕ → Bool} {cost : ℕ → (ℕ → ℕ) → ℕ} → Local n cover cost → Local n cover (column_weight cost)
local-weight looks = record { local = λ c lt s t same. ap (λ (x : ℕ). x * top) (looks.local c lt s t same) }

-- sides from 1 to k
abbrev pub InClasses : ℕ → (ℕ → ℕ) → Type 0
InClasses k t = (x : ℕ) → (1 ≤ t x) × (t x ≤ k)

module _ (k : ℕ) (some : 0 < k) (on_side : ℕ → ℕ → ℕ) (at_column : ℕ → (ℕ → ℕ) → ℕ) (n : ℕ) (cover : ℕ → ℕ → Bool) (looks : Local n cover at_column) where
  -- locality: the least weight looks only at the sides of the live fragments
  pub least-local : (es : List Event) → Ordered cover n es → (s t : ℕ → ℕ) → ((x : ℕ) → Live cover x es → s x ≡ t x)
      → least_event_weight k on_side at_column es s ≡ least_event_weight k on_side at_column es t
  unfolding least_event_weight Live Ordered
  least-local [] o s t h = refl
  least-local (enter f ∷ es) o s t h =
      least_to-ext (k - 1) _ _ λ d l. ap (λ (v : ℕ). on_side f (suc d) + v)
      (least-local es o.1 (with_value f (suc d) s) (with_value f (suc d) t)
      (each (λ x. Live cover x es → with_value f (suc d) s x ≡ with_value f (suc d) t x) f
      (λ v. value_same f (suc d) s ∙ sym (value_same f (suc d) t))
      (λ x ne v. value-other f (suc d) s x ne ∙ h x (ne, v) ∙ sym (value-other f (suc d) t x ne))))
  least-local (charge c ∷ es) o s t h = ap₂ ◌+◌ (looks.local c o.0 s t (λ x v. h x (inl v))) (least-local es o.2 s t (λ x v. h x (inr v)))

  -- no sides weigh less
  pub least-lower : (es : List Event) → Ordered cover n es → (s t : ℕ → ℕ) → InClasses k t → ((x : ℕ) → Live cover x es → s x ≡ t x)
      → least_event_weight k on_side at_column es s ≤ total_weight on_side at_column es t
  unfolding least_event_weight total_weight Live Ordered
  least-lower [] o s t r h = zero-le
  least-lower (enter f ∷ es) o s t r h =
      let d : ℕ = t f - 1 in
      let e : suc d ≡ t f = omega (arith, (r f).0) in
      let deeper : least_event_weight k on_side at_column es (with_value f (suc d) s) ≤ total_weight on_side at_column es t =
      least-lower es o.1 (with_value f (suc d) s) t r
      (each (λ x. Live cover x es → with_value f (suc d) s x ≡ t x) f
      (λ v. value_same f (suc d) s ∙ e)
      (λ x ne v. value-other f (suc d) s x ne ∙ h x (ne, v))) in
      le_trans (least_to-le (k - 1) (λ d. on_side f (suc d) + least_event_weight k on_side at_column es (with_value f (suc d) s)) d (omega (arith, (r f).1)))
      (add-le-add (le_of_eq (ap (on_side f) e)) deeper)
  least-lower (charge c ∷ es) o s t r h =
      add-le-add (le_of_eq (looks.local c o.0 s t (λ x v. h x (inl v)))) (least-lower es o.2 s t r (λ x v. h x (inr v)))

  -- some sides weigh the least, and leave the fragments that do not enter as they are
  pub record Best (es : List Event) (s : ℕ → ℕ) : Type 0 where
    pub sides : ℕ → ℕ
    pub is : total_weight on_side at_column es sides ≡ least_event_weight k on_side at_column es s
    pub stay : (x : ℕ) → Absent x es → sides x ≡ s x
    pub range : InClasses k sides

  pub best : (es : List Event) → Ordered cover n es → (s : ℕ → ℕ) → InClasses k s → Best es s
  unfolding least_event_weight total_weight Absent Ordered
  best [] o s r = record { sides = s; is = refl; stay = λ x a. refl; range = r }
  best (enter f ∷ es) o s r =
      let q = least_to-at (k - 1) (λ d. on_side f (suc d) + least_event_weight k on_side at_column es (with_value f (suc d) s)) in
      let d : ℕ = q.0 in
      let b = best es o.1 (with_value f (suc d) s)
      (each (λ x. (1 ≤ with_value f (suc d) s x) × (with_value f (suc d) s x ≤ k)) f
      (rw (value_same f (suc d) s) (omega arith, let h = q.1 in omega arith))
      (λ x ne. rw (value-other f (suc d) s x ne) (r x))) in
      let here : b.sides f ≡ suc d = b.stay f o.0 ∙ value_same f (suc d) s in
      record {
        sides = b.sides;
        is = ap₂ ◌+◌ (ap (on_side f) here) b.is ∙ sym q.2;
        stay = λ x a. b.stay x a.1 ∙ value-other f (suc d) s x a.0;
        range = b.range;
      }
  best (charge c ∷ es) o s r =
      let b = best es o.2 s r in
      record {
        sides = b.sides;
        is = ap₂ ◌+◌ (looks.local c o.0 b.sides s (λ x v. b.stay x (o.1 x v))) b.is;
        stay = b.stay;
        range = b.range;
      }
