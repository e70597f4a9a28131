-- What choosing by trying every candidate gives: the members of `choices`, the first member that passes, and the first of least cost.
-- Assumes nothing.
use mathlib.Core.Path.{◌≡◌, refl, sym, ap, subst}
use mathlib.Core.Logic.{◌⊎◌, inl, inr}
use mathlib.Core.Bool.{Bool, true, false}
use mathlib.Core.List.Memᴰ
use mathlib.Core.List.{List, [], ◌∷◌, ◌++◌, map, Memᴰ}
use Prim.Native.Nat.{ℕ, zero, suc, ◌≤◌, ◌<◌}
use native.Mathlib.Omega.{arith}
use lib.ListN.{length, get_or}
use native.Mathlib.Nat.{not-suc-le-zero, le_refl, le_trans, le_of_lt}
use lib.Dec.{T}
use Rattle.below.specs.Below.{◌≤?◌, ◌or◌, isnt, ◌=?◌, ◌<?◌, sum_below, count_below}
use Rattle.below.proofs.MemberLaws.{concat-of, concat-at}
use Rattle.below.proofs.BelowLaws.{or_left, or_right, or_cases, if-ind, isnt-≤?, ≤?-le}
use Rattle.conflicts.specs.Choice.{choices, passing, some, first, least_of, first_least, zeros}

-- two keep lists that remove as many: the first is taken
tie : first_least zeros ((1 ∷ 0 ∷ []) ∷ (0 ∷ 1 ∷ []) ∷ []) [] ≡ 1 ∷ 0 ∷ []
unfolding first_least least_of zeros count_below sum_below ◌=?◌ ◌≤?◌ ◌<?◌
tie = refl

module _ {A : Type 0} where
  -- ---- tests over a list

  pub some_of : (p : A → Bool) {x : A} {xs : List A} → Memᴰ x xs → T (p x) → T (some p xs)
  unfolding some
  some_of p {x} (Memᴰ.head {x = y} {xs} e) t = or_left (p y) (some p xs) (subst (λ (z : A). T (p z)) e t)
  some_of p {x} (Memᴰ.tail {x = y} {xs} m) t = or_right (p y) (some p xs) (some_of p m t)

  pub some_at : (p : A → Bool) (xs : List A) → T (some p xs) → (x : A) × Memᴰ x xs × T (p x)
  unfolding some
  some_at p [] t = absurd t
  some_at p (y ∷ xs) t = go (some_at p xs) (or_cases (p y) (some p xs) t)
    where
      go : (T (some p xs) → (x : A) × Memᴰ x xs × T (p x)) → T (p y) ⊎ T (some p xs) → (x : A) × Memᴰ x (y ∷ xs) × T (p x)
      go rest (inl s) = (y, Memᴰ.head refl, s)
      go rest (inr s) = let r = rest s in (r.0, Memᴰ.tail r.1, r.2)

  -- the first member that passes is a member, and passes
  pub first-is : (p : A → Bool) (xs : List A) (d : A) → T (some p xs) → Memᴰ (first p xs d) xs × T (p (first p xs d))
  unfolding some first ◌or◌ isnt
  first-is p [] d t = absurd t
  first-is p (y ∷ xs) d t =
      if-ind (λ z. Memᴰ z (y ∷ xs) × T (p z)) (p y)
      (λ s. (Memᴰ.head refl, s))
      (λ s. let r = first-is p xs d (later (p y) (some p xs) s t) in (Memᴰ.tail r.0, r.1))
    where
      later : (a b : Bool) → T (isnt a) → T (a or b) → T b
      later true b n s = absurd n
      later false b n s = s

  pub passing-of : (p : A → Bool) {x : A} {xs : List A} → Memᴰ x xs → T (p x) → Memᴰ x (passing p xs)
  unfolding passing isnt
  passing-of p {x} (Memᴰ.head {x = y} {xs} e) t =
      if-ind (λ l. Memᴰ x l) (p y) (λ s. Memᴰ.head e) (λ s. absurd (never (p y) s (subst (λ (z : A). T (p z)) e t)))
    where
      never : (b : Bool) → T (isnt b) → T b → ⊥
      never true n s = n
      never false n s = s
  passing-of p {x} (Memᴰ.tail {x = y} {xs} m) t =
      if-ind (λ l. Memᴰ x l) (p y) (λ s. Memᴰ.tail (passing-of p m t)) (λ s. passing-of p m t)

  -- what holds of the head and of each member of the tail holds of each member
  pub every-cons : (P : A → Type 0) {x : A} {xs : List A} → P x → ((y : A) → Memᴰ y xs → P y) → (y : A) → Memᴰ y (x ∷ xs) → P y
  every-cons P h t y (Memᴰ.head e) = subst P (sym e) h
  every-cons P h t y (Memᴰ.tail m) = t y m

  pub passing-at : (p : A → Bool) (xs : List A) (x : A) → Memᴰ x (passing p xs) → Memᴰ x xs × T (p x)
  unfolding passing
  passing-at p [] x = λ m. absurd (Memᴰ.not-nil m)
  passing-at p (y ∷ xs) x =
      let rest : (z : A) → Memᴰ z (passing p xs) → Memᴰ z (y ∷ xs) × T (p z) =
      λ z m. let r = passing-at p xs z m in (Memᴰ.tail r.0, r.1) in
      if-ind (λ l. Memᴰ x l → Memᴰ x (y ∷ xs) × T (p x)) (p y)
      (λ s. every-cons (λ z. Memᴰ z (y ∷ xs) × T (p z)) (Memᴰ.head refl, s) rest x)
      (λ s. rest x)

  -- ---- the first of least cost

  -- r is the first member of xs that costs least: those before it cost more, and no member costs less
  pub record IsFirstLeast (cost : A → ℕ) (xs : List A) (r : A) : Type 0 where
    pub before : List A
    pub after : List A
    pub split : xs ≡ before ++ (r ∷ after)
    pub dearer : (y : A) → Memᴰ y before → cost r < cost y
    pub least : (y : A) → Memᴰ y xs → cost r ≤ cost y

  least_of-is : (cost : A → ℕ) (x : A) (xs : List A) → IsFirstLeast cost (x ∷ xs) (least_of cost x xs)
  unfolding least_of
  least_of-is cost x [] = record {
    before = [];
    after = [];
    split = refl;
    dearer = λ y m. absurd (Memᴰ.not-nil m);
    least = every-cons (λ y. cost x ≤ cost y) (le_refl (cost x)) (λ y m. absurd (Memᴰ.not-nil m));
  }
  least_of-is cost x (y ∷ ys) =
      let r = least_of cost y ys in
      let ih : IsFirstLeast cost (y ∷ ys) r = least_of-is cost y ys in
      if-ind (λ z. IsFirstLeast cost (x ∷ y ∷ ys) z) (cost x ≤? cost r)
      (λ t. record {
        before = [];
        after = y ∷ ys;
        split = refl;
        dearer = λ y m. absurd (Memᴰ.not-nil m);
        least = every-cons (λ z. cost x ≤ cost z) (le_refl (cost x)) (λ z m. le_trans (≤?-le (cost x) (cost r) t) (ih.least z m));
      })
      (λ t. record {
        before = x ∷ ih.before;
        after = ih.after;
        split = ap (λ (l : List A). x ∷ l) ih.split;
        dearer = every-cons (λ z. cost r < cost z) (isnt-≤? (cost x) (cost r) t) ih.dearer;
        least = every-cons (λ z. cost r ≤ cost z) (le_of_lt (isnt-≤? (cost x) (cost r) t)) ih.least;
      })

  -- where there is a member, first_least is the first that costs least
  pub first_least-is : (cost : A → ℕ) (xs : List A) (d : A) {x : A} → Memᴰ x xs → IsFirstLeast cost xs (first_least cost xs d)
  unfolding first_least
  first_least-is cost [] d m = absurd (Memᴰ.not-nil m)
  first_least-is cost (x ∷ xs) d m = least_of-is cost x xs

  seam : (s : List A) (r : A) (t : List A) → Memᴰ r (s ++ (r ∷ t))
  seam s r t = Memᴰ.append_right s (Memᴰ.head refl)

  -- … and a member
  pub first_least-in : (cost : A → ℕ) (xs : List A) (d : A) {x : A} → Memᴰ x xs → Memᴰ (first_least cost xs d) xs
  first_least-in cost xs d m =
      let f = first_least-is cost xs d m in
      subst (λ (l : List A). Memᴰ (first_least cost xs d) l) (sym f.split) (seam f.before (first_least cost xs d) f.after)

  -- ---- the members of `choices`

  -- the members of l are taken one from each of the lists of options
  pub data Picks : List A → List (List A) → Type 0 where
    none : Picks [] []
    pick : {x : A} {l options : List A} {rest : List (List A)} → Memᴰ x options → Picks l rest → Picks (x ∷ l) (options ∷ rest)

  pub map_of : {B : Type 0} (f : A → B) {x : A} {xs : List A} → Memᴰ x xs → Memᴰ (f x) (map f xs)
  map_of f (Memᴰ.head e) = Memᴰ.head (ap f e)
  map_of f (Memᴰ.tail m) = Memᴰ.tail (map_of f m)

  pub map_at : {B : Type 0} (f : A → B) (xs : List A) {y : B} → Memᴰ y (map f xs) → (x : A) × Memᴰ x xs × (y ≡ f x)
  map_at f [] m = absurd (Memᴰ.not-nil m)
  map_at f (x ∷ xs) (Memᴰ.head e) = (x, Memᴰ.head refl, e)
  map_at f (x ∷ xs) (Memᴰ.tail m) = let r = map_at f xs m in (r.0, Memᴰ.tail r.1, r.2)

module _ {A : Type 0} where
  pub choices-of : {l : List A} {options : List (List A)} → Picks l options → Memᴰ l (choices options)
  unfolding choices
  choices-of none = Memᴰ.head refl
  choices-of (pick {x} {l} {options} {rest} m p) =
      concat-of (map_of (λ k. x ∷ k) (choices-of p)) (map_of (λ o. map (λ k. o ∷ k) (choices rest)) m)

  pub choices-at : {l : List A} (options : List (List A)) → Memᴰ l (choices options) → Picks l options
  unfolding choices
  choices-at {l} [] m = subst (λ (k : List A). Picks k []) (sym (Memᴰ.eq_of_singleton m)) none
  choices-at {l} (options ∷ rest) m =
      let c = concat-at (map (λ o. map (λ k. o ∷ k) (choices rest)) options) m in
      let o = map_at (λ o. map (λ k. o ∷ k) (choices rest)) options c.1 in
      let k = map_at (λ k. o.0 ∷ k) (choices rest) (subst (λ (ls : List (List A)). Memᴰ l ls) o.2 c.2) in
      subst (λ (j : List A). Picks j (options ∷ rest)) (sym k.2) (pick o.1 (choices-at {l = k.0} rest k.1))

  -- … place by place
  pub picks_of : (d : A) (l : List A) (options : List (List A)) → length l ≡ length options
      → ((i : ℕ) → i < length options → Memᴰ (get_or l i d) (get_or options i [])) → Picks l options
  picks_of d [] [] e h = none
  picks_of d [] (o ∷ os) e h = absurd (omega arith)
  picks_of d (x ∷ l) [] e h = absurd (omega arith)
  picks_of d (x ∷ l) (o ∷ os) e h = pick (h 0 (omega arith)) (picks_of d l os (omega arith) (λ i lt. h (suc i) (omega arith)))

  pub picks-length : {l : List A} {options : List (List A)} → Picks l options → length l ≡ length options
  picks-length none = refl
  picks-length (pick m p) = ap suc (picks-length p)

  pub picks_at : (d : A) {l : List A} {options : List (List A)} → Picks l options → (i : ℕ) → i < length options → Memᴰ (get_or l i d) (get_or options i [])
  picks_at d none i h = absurd (not-suc-le-zero h)
  picks_at d (pick m p) zero h = m
  picks_at d (pick m p) (suc i) h = picks_at d p i (omega arith)
