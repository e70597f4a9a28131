-- The order of `choices`, and what makes a candidate the first of least cost.
-- Assumes nothing.
use mathlib.Core.Path.{◌≡◌, refl, sym, ap, subst, subst₂}
use mathlib.Core.Logic.{◌⊎◌, inl, inr}
use mathlib.Core.Bool.{Bool}
use mathlib.Core.List.Memᴰ
use mathlib.Core.List.{List, [], ◌∷◌, ◌++◌, map, Memᴰ}
use Prim.Native.Nat.{ℕ, zero, suc, ◌+◌, ◌≤◌, ◌<◌}
use native.Mathlib.Nat.{not-suc-le-zero, le_refl}
use native.Mathlib.Decide.{ℕ_discrete}
use native.Mathlib.Omega.{arith}
use lib.Dec.{T, lit<}
use lib.ListN.{length, get_or}
use Rattle.below.specs.Below.{bit, concat, tab_from, ◌=?◌}
use Rattle.below.proofs.BelowLaws.{if-ind, T-isnt}
use Rattle.conflicts.specs.Choice.{choices, passing, first, first_least}
use Rattle.conflicts.specs.Minimality.{Earlier}
use Rattle.conflicts.proofs.ChoiceLaws.{IsFirstLeast, first_least-is, first_least-in, passing-at, map_at}
use Rattle.below.proofs.MemberLaws.{concat-at}

module _ {A : Type 0} where
  -- x stands in a list before y
  pub data Precedes (x y : A) : List A → Type 0 where
    now : {z : A} {xs : List A} → x ≡ z → Memᴰ y xs → Precedes x y (z ∷ xs)
    later : {z : A} {xs : List A} → Precedes x y xs → Precedes x y (z ∷ xs)

  pub seam-precedes : {x y : A} (s : List A) {t : List A} → Memᴰ y t → Precedes x y (s ++ (x ∷ t))
  seam-precedes [] m = now refl m
  seam-precedes (z ∷ s) m = later (seam-precedes s m)

  -- of two members of a list in a row, both stand in the first part, or both in the second, or one in each
  precedes-append : {x y : A} (s : List A) {t : List A} → Precedes x y (s ++ t) → Precedes x y s ⊎ (Memᴰ x s × Memᴰ y t) ⊎ Precedes x y t
  precedes-append [] p = inr (inr p)
  precedes-append {x} {y} (z ∷ s) {t} (now e m) = go (Memᴰ.append_cases s m)
    where
      go : Memᴰ y s ⊎ Memᴰ y t → Precedes x y (z ∷ s) ⊎ (Memᴰ x (z ∷ s) × Memᴰ y t) ⊎ Precedes x y t
      go (inl h) = inl (now e h)
      go (inr h) = inr (inl (Memᴰ.head e, h))
  precedes-append {x} {y} (z ∷ s) {t} (later p) = go (precedes-append s p)
    where
      go : Precedes x y s ⊎ (Memᴰ x s × Memᴰ y t) ⊎ Precedes x y t → Precedes x y (z ∷ s) ⊎ (Memᴰ x (z ∷ s) × Memᴰ y t) ⊎ Precedes x y t
      go (inl h) = inl (later h)
      go (inr (inl h)) = inr (inl (Memᴰ.tail h.0, h.1))
      go (inr (inr h)) = inr (inr h)

  -- a list with more members between keeps the order
  widen : {x y z : A} {s t : List A} → ((v : A) → Memᴰ v s → Memᴰ v t) → (Precedes x y s → Precedes x y t) → Precedes x y (z ∷ s) → Precedes x y (z ∷ t)
  widen f g (now e m) = now e (f _ m)
  widen f g (later p) = later (g p)

  pub passing-precedes : (p : A → Bool) (xs : List A) (x y : A) → Precedes x y (passing p xs) → Precedes x y xs
  unfolding passing
  passing-precedes p [] x y = λ q. q
  passing-precedes p (z ∷ xs) x y =
      if-ind (λ l. Precedes x y l → Precedes x y (z ∷ xs)) (p z)
      (λ t. widen (λ v m. (passing-at p xs v m).0) (passing-precedes p xs x y))
      (λ t q. later (passing-precedes p xs x y q))

  -- l comes before k: at the first place where they differ l has the earlier option
  pub data Sooner : List (List A) → List A → List A → Type 0 where
    here : {x y : A} {l k options : List A} {rest : List (List A)} → Precedes x y options → Sooner (options ∷ rest) (x ∷ l) (y ∷ k)
    there : {x : A} {l k options : List A} {rest : List (List A)} → Sooner rest l k → Sooner (options ∷ rest) (x ∷ l) (x ∷ k)

pub nothing : {B : Type 0} {a b : B} → Precedes a b [] → ⊥
nothing q = elim q [ ]

precedes-map : {A B : Type 0} (f : A → B) (xs : List A) {a b : B} → Precedes a b (map f xs) → (x : A) × (y : A) × (a ≡ f x) × (b ≡ f y) × Precedes x y xs
precedes-map f [] q = absurd (nothing q)
precedes-map f (z ∷ xs) (now e m) = let r = map_at f xs m in (z, r.0, e, r.2, now refl r.1)
precedes-map f (z ∷ xs) (later q) = let r = precedes-map f xs q in (r.0, r.1, r.2, r.3, later r.4)

module _ {A : Type 0} where
  abbrev headed : List (List A) → A → List (List A)
  headed ls o = map (λ l. o ∷ l) ls

  headed-at : (ls : List (List A)) (options : List A) {l : List A} → Memᴰ l (concat (map (headed ls) options))
      → (o : A) × (k : List A) × Memᴰ o options × (l ≡ o ∷ k)
  headed-at ls options {l} m =
      let c = concat-at (map (headed ls) options) m in
      let o = map_at (headed ls) options c.1 in
      let k = map_at (λ k. o.0 ∷ k) ls (subst (λ (j : List (List A)). Memᴰ l j) o.2 c.2) in
      (o.0, k.0, o.1, k.2)

  sooner-later : {o : A} {options l k : List A} {rest : List (List A)} → Sooner (options ∷ rest) l k → Sooner ((o ∷ options) ∷ rest) l k
  sooner-later (here p) = here (later p)
  sooner-later (there s) = there s

  headed-order : (rest : List (List A)) → ((s t : List A) → Precedes s t (choices rest) → Sooner rest s t)
      → (options l k : List A) → Precedes l k (concat (map (headed (choices rest)) options)) → Sooner (options ∷ rest) l k
  unfolding concat
  headed-order rest ih [] l k q = absurd (nothing q)
  headed-order rest ih (o ∷ os) l k q = go (headed-order rest ih os l k) (precedes-append (headed (choices rest) o) q)
    where
      tails : List (List A)
      tails = concat (map (headed (choices rest)) os)

      go : (Precedes l k tails → Sooner (os ∷ rest) l k)
          → Precedes l k (headed (choices rest) o) ⊎ (Memᴰ l (headed (choices rest) o) × Memᴰ k tails) ⊎ Precedes l k tails → Sooner ((o ∷ os) ∷ rest) l k
      go deeper (inl p) =
          let r = precedes-map (λ j. o ∷ j) (choices rest) p in
          subst₂ (λ (a b : List A). Sooner ((o ∷ os) ∷ rest) a b) (sym r.2) (sym r.3) (there (ih r.0 r.1 r.4))
      go deeper (inr (inl h)) =
          let a = map_at (λ j. o ∷ j) (choices rest) h.0 in
          let b = headed-at (choices rest) os h.1 in
          subst₂ (λ (x y : List A). Sooner ((o ∷ os) ∷ rest) x y) (sym a.2) (sym b.3) (here (now refl b.2))
      go deeper (inr (inr p)) = sooner-later (deeper p)

  -- the order of `choices` is the order by the first place that differs
  pub choices-order : (options : List (List A)) (l k : List A) → Precedes l k (choices options) → Sooner options l k
  unfolding choices
  choices-order [] l k q = absurd (alone q)
    where
      alone : {a : List A} → Precedes l k (a ∷ []) → ⊥
      alone (now e m) = Memᴰ.not-nil m
      alone (later p) = nothing p
  choices-order (options ∷ rest) l k q = headed-order rest (choices-order rest) options l k q

  -- A candidate that no other undercuts, and that costs less than each candidate which comes sooner, is the first of least cost.
  pub is-first_least : (cost : List A → ℕ) (options xs : List (List A)) (d r : List A) → ((l k : List A) → Precedes l k xs → Sooner options l k)
      → Memᴰ r xs → ((k : List A) → Memᴰ k xs → cost r ≤ cost k)
      → ((k : List A) → Memᴰ k xs → Sooner options k r → cost r < cost k) → r ≡ first_least cost xs d
  is-first_least cost options xs d r order m least sooner = go (Memᴰ.append_cases fl.before (subst (λ (l : List (List A)). Memᴰ r l) fl.split m))
    where
      f : List A
      f = first_least cost xs d

      fl : IsFirstLeast cost xs f
      fl = first_least-is cost xs d m

      member : Memᴰ f xs
      member = first_least-in cost xs d m

      behind : (r ≡ f) ⊎ Memᴰ r fl.after → r ≡ f
      behind (inl e) = e
      behind (inr h) =
          let q : Precedes f r xs = subst (λ (l : List (List A)). Precedes f r l) (sym fl.split) (seam-precedes fl.before h) in
          let dear = sooner f member (order f r q) in
          let cheap = fl.least r m in
          absurd (omega arith)

      go : Memᴰ r fl.before ⊎ Memᴰ r (f ∷ fl.after) → r ≡ f
      go (inl h) = let dear = fl.dearer r h in let cheap = least f member in absurd (omega arith)
      go (inr h) = behind (Memᴰ.cases_cons h)

  -- the order of the candidates that pass a test
  pub passing-order : (p : List A → Bool) (options : List (List A)) (l k : List A) → Precedes l k (passing p (choices options)) → Sooner options l k
  passing-order p options l k q = choices-order options l k (passing-precedes p (choices options) l k q)

  -- the first of least cost stands before every other member of the same cost
  pub tied-before : (cost : A → ℕ) (xs : List A) (d : A) {y : A} → Memᴰ y xs → cost y ≡ cost (first_least cost xs d)
      → (y ≡ first_least cost xs d) ⊎ Precedes (first_least cost xs d) y xs
  tied-before cost xs d {y} m e = go (Memᴰ.append_cases fl.before (subst (λ (l : List A). Memᴰ y l) fl.split m))
    where
      r : A
      r = first_least cost xs d

      fl : IsFirstLeast cost xs r
      fl = first_least-is cost xs d m

      behind : (y ≡ r) ⊎ Memᴰ y fl.after → (y ≡ r) ⊎ Precedes r y xs
      behind (inl q) = inl q
      behind (inr h) = inr (subst (λ (l : List A). Precedes r y l) (sym fl.split) (seam-precedes fl.before h))

      go : Memᴰ y fl.before ⊎ Memᴰ y (r ∷ fl.after) → (y ≡ r) ⊎ Precedes r y xs
      go (inl h) = let dear = fl.dearer y h in absurd (omega arith)
      go (inr h) = behind (Memᴰ.cases_cons h)

  -- the first that passes comes before every other that passes
  pub first-order : (p : A → Bool) (d : A) {y : A} {xs : List A} → Memᴰ y xs → T (p y) → (y ≡ first p xs d) ⊎ Precedes (first p xs d) y xs
  unfolding first
  first-order p d {y} (Memᴰ.head {x} {xs} e) t =
      if-ind (λ z. (y ≡ z) ⊎ Precedes z y (x ∷ xs)) (p x) (λ s. inl e) (λ s. absurd (T-isnt (p x) s (subst (λ (z : A). T (p z)) e t)))
  first-order p d {y} (Memᴰ.tail {x} {xs} m) t =
      if-ind (λ z. (y ≡ z) ⊎ Precedes z y (x ∷ xs)) (p x) (λ s. inr (now refl m)) (λ s. after (first-order p d m t))
    where
      after : {z : A} → (y ≡ z) ⊎ Precedes z y xs → (y ≡ z) ⊎ Precedes z y (x ∷ xs)
      after (inl e) = inl e
      after (inr q) = inr (later q)

-- ---- the order by digits

-- the earlier of two options has the lower digit
abbrev pub Rising : (ℕ → ℕ) → List ℕ → Type 0
Rising digit options = (x y : ℕ) → Precedes x y options → digit x < digit y

pub sooner-earlier : (digit : ℕ → ℕ) {options : List (List ℕ)} {l k : List ℕ} → ((i : ℕ) → i < length options → Rising digit (get_or options i []))
    → Sooner options l k → Earlier (length options) (λ i. digit (get_or l i 0)) (λ i. digit (get_or k i 0))
sooner-earlier digit rises (here {x} {y} p) = record { at = 0; inside = omega arith; before = λ i h. absurd (not-suc-le-zero h); lower = rises 0 (omega arith) x y p }
sooner-earlier digit rises (there {x} {l} {k} s) =
    let r = sooner-earlier digit (λ i h. rises (suc i) (omega arith)) s in
    record { at = suc r.at; inside = omega (arith, r.inside); before = same r.at r.before; lower = r.lower }
  where
    same : (a : ℕ) → ((i : ℕ) → i < a → digit (get_or l i 0) ≡ digit (get_or k i 0)) → (i : ℕ) → i < suc a → digit (get_or (x ∷ l) i 0) ≡ digit (get_or (x ∷ k) i 0)
    same a f zero h = refl
    same a f (suc i) h = f i (omega arith)

pub keeps-rise : Rising (λ x. bit (x =? 0)) (1 ∷ 0 ∷ [])
unfolding ◌=?◌
keeps-rise x y (now e m) = let q = Memᴰ.eq_of_singleton m in rw (e, q) (lit< tt)
keeps-rise x y (later (now e m)) = absurd (Memᴰ.not-nil m)
keeps-rise x y (later (later p)) = absurd (nothing p)

pub tab-mem : (f : ℕ → ℕ) (j k : ℕ) {x : ℕ} → Memᴰ x (tab_from j k f) → (i : ℕ) × (j ≤ i) × (i < j + k) × (x ≡ f i)
unfolding tab_from
tab-mem f j zero m = absurd (Memᴰ.not-nil m)
tab-mem f j (suc k) (Memᴰ.head e) = (j, le_refl j, omega arith, e)
tab-mem f j (suc k) (Memᴰ.tail m) = let r = tab-mem f (suc j) k m in (r.0, omega (arith, r.1), omega (arith, r.2), r.3)

pub mem-tab : (f : ℕ → ℕ) (j k i : ℕ) → j ≤ i → i < j + k → Memᴰ (f i) (tab_from j k f)
unfolding tab_from
mem-tab f j zero i h l = absurd (omega arith)
mem-tab f j (suc k) i h l = elim (ℕ_discrete i j) [ yes e ↦ Memᴰ.head (ap f e) | no n ↦ Memᴰ.tail (mem-tab f (suc j) k i (omega arith) (omega arith)) ]

pub tab-rises : (j k : ℕ) → Rising (λ x. x) (tab_from j k suc)
unfolding tab_from
tab-rises j zero x y p = absurd (nothing p)
tab-rises j (suc k) x y (now e m) = let r = tab-mem suc (suc j) k m in omega (arith, r.1, r.3)
tab-rises j (suc k) x y (later p) = tab-rises (suc j) k x y p
