-- The members of lists joined, and of a list of f 0, f 1, ….
-- Assumes nothing.
use mathlib.Core.Path.{◌≡◌, refl, ap, subst}
use mathlib.Core.Logic.{◌⊎◌, inl, inr}
use mathlib.Core.List.Memᴰ
use mathlib.Core.List.{List, [], ◌∷◌, Memᴰ}
use Prim.Native.Nat.{ℕ, zero, suc, ◌+◌, ◌≤◌, ◌<◌}
use native.Mathlib.Decide.{ℕ_discrete}
use native.Mathlib.Omega.{arith}
use Rattle.below.specs.Below.{tab, tab_from, concat}

module _ {A : Type 0} where
  pub concat-of : {x : A} {l : List A} {ls : List (List A)} → Memᴰ x l → Memᴰ l ls → Memᴰ x (concat ls)
  unfolding concat
  concat-of {x} {l} m (Memᴰ.head {xs} e) = Memᴰ.append_left (concat xs) (subst (λ (k : List A). Memᴰ x k) e m)
  concat-of m (Memᴰ.tail {x = k} h) = Memᴰ.append_right k (concat-of m h)

  pub concat-at : {x : A} (ls : List (List A)) → Memᴰ x (concat ls) → (l : List A) × Memᴰ l ls × Memᴰ x l
  unfolding concat
  concat-at [] m = absurd (Memᴰ.not-nil m)
  concat-at {x} (l ∷ ls) m = go (concat-at ls) (Memᴰ.append_cases l m)
    where
      go : (Memᴰ x (concat ls) → (k : List A) × Memᴰ k ls × Memᴰ x k) → Memᴰ x l ⊎ Memᴰ x (concat ls)
          → (k : List A) × Memᴰ k (l ∷ ls) × Memᴰ x k
      go rest (inl h) = (l, Memᴰ.head refl, h)
      go rest (inr h) = let r = rest h in (r.0, Memᴰ.tail r.1, r.2)

  from-of : (f : ℕ → A) (j k i : ℕ) → j ≤ i → i < j + k → Memᴰ (f i) (tab_from j k f)
  unfolding tab_from
  from-of f j zero i h l = absurd (omega arith)
  from-of f j (suc k) i h l =
      elim (ℕ_discrete i j) [ yes e ↦ Memᴰ.head (ap f e) | no n ↦ Memᴰ.tail (from-of f (suc j) k i (omega arith) (omega arith)) ]

  pub tab-of : (f : ℕ → A) (m i : ℕ) → i < m → Memᴰ (f i) (tab m f)
  unfolding tab
  tab-of f m i h = from-of f 0 m i (omega arith) (omega arith)

  from_at : (f : ℕ → A) (j k : ℕ) {x : A} → Memᴰ x (tab_from j k f) → (i : ℕ) × (i < j + k) × (x ≡ f i)
  unfolding tab_from
  from_at f j zero m = absurd (Memᴰ.not-nil m)
  from_at f j (suc k) (Memᴰ.head e) = (j, omega arith, e)
  from_at f j (suc k) (Memᴰ.tail m) = let r = from_at f (suc j) k m in (r.0, let h = r.1 in omega arith, r.2)

  pub tab-at : (f : ℕ → A) (m : ℕ) {x : A} → Memᴰ x (tab m f) → (i : ℕ) × (i < m) × (x ≡ f i)
  unfolding tab
  tab-at f m h = let r = from_at f 0 m h in (r.0, let l = r.1 in omega arith, r.2)
