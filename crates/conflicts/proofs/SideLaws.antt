-- Side lists and classes: what `lawful`, `error_free` and `first_sides_of` say of any side function and of any two classes.
-- Assumes nothing.
use Rattle.std.specs.Prelude.{if◌then◌else◌}
use mathlib.Core.Path.{◌≡◌, refl, sym, ap, subst, ◌∙◌}
use mathlib.Core.Logic.{◌↔◌, ◌⊎◌, inl, inr}
use mathlib.Core.Bool.{Bool, true, false}
use mathlib.Core.List.Memᴰ
use mathlib.Core.List.{List, [], ◌∷◌, map, Memᴰ}
use Prim.Native.Nat.{ℕ, zero, suc, ◌-◌, ◌≤◌, ◌<◌}
use native.Mathlib.Decide.{ℕ_discrete}
use native.Mathlib.Omega.{arith}
use lib.Dec.{T, lit≤}
use lib.ListN.{length, get_or, length-map, length-replicate, get_or-replicate}
use Rattle.below.specs.Below.{◌=?◌, ◌<?◌, isnt, tab, tab_from}
use Rattle.below.proofs.BelowLaws.{both, left-of, right_of, T-isnt, isnt-T, decided, if-true, if-false, =?-eq, =?-refl, <?-lt, lt-<?, all_below-at, all_below-of, any_below-at, any_below-of, length-tab, get_or-tab}
use Rattle.conflicts.specs.Choice.{first, marked, keep_all}
use Rattle.conflicts.specs.Grid.{Grid, conflict_on, conflict_on_kept}
use Rattle.conflicts.specs.Sides.{sides_of, side_lists, same_side, lawful, error_free, first_sides_of}
use Rattle.conflicts.specs.Minimality.{TwoClasses, LawfulSides, Earlier, Alike, FirstSides}
use Rattle.conflicts.proofs.ChoiceLaws.{some_of, some_at, first-is, choices-of, choices-at, picks_of, picks_at, picks-length}
use Rattle.conflicts.proofs.OrderLaws.{Precedes, now, later, nothing, Rising, first-order, choices-order, sooner-earlier, tab-mem, mem-tab, tab-rises}

-- a kept fragment's sides, side 1 first
side-one : sides_of 2 1 ≡ 1 ∷ 2 ∷ []
unfolding sides_of ◌<?◌ tab
side-one = refl

-- ---- marks

pub kept-all : (size i : ℕ) → i < size → T (marked (keep_all size) i)
unfolding marked keep_all ◌<?◌
kept-all size i h = rw (get_or-replicate {A = ℕ} size i 1 0 h) tt

pub all-length : (size : ℕ) → length (keep_all size) ≡ size
unfolding keep_all
all-length size = length-replicate size 1

-- ---- lawful side lists

pub lawful-of : (g : Grid) (cols sides : List ℕ)
    → ((i j c : ℕ) → i < g.m → j < g.m → c < g.n → T (marked sides i) → get_or sides i 0 ≡ get_or sides j 0 → T (marked cols c) → T (conflict_on g c i j) → ⊥)
    → T (lawful g cols sides)
unfolding lawful conflict_on_kept same_side
lawful-of g cols sides h =
    all_below-of g.m _ λ i hi. all_below-of g.m _ λ j hj. isnt-T _ λ t.
    let k = any_below-at g.n _ (right_of _ _ t) in
    h i j k.0 hi hj k.1 (left-of _ _ (left-of _ _ t)) (=?-eq _ _ (right_of _ _ (left-of _ _ t))) (left-of _ _ k.2) (right_of _ _ k.2)

pub lawful-at : (g : Grid) (cols sides : List ℕ) → T (lawful g cols sides)
    → (i j c : ℕ) → i < g.m → j < g.m → c < g.n → T (marked sides i) → get_or sides i 0 ≡ get_or sides j 0 → T (marked cols c) → T (conflict_on g c i j) → ⊥
unfolding lawful conflict_on_kept same_side
lawful-at g cols sides t i j c hi hj hc on e kept clash =
    T-isnt _ (all_below-at g.m _ (all_below-at g.m _ t i hi) j hj)
    (both _ _ (both _ _ on (rw e (=?-refl (get_or sides j 0)))) (any_below-of g.n _ c hc (both _ _ kept clash)))

-- ---- the sides that a fragment can have

pub side-mem : (k mark : ℕ) {x : ℕ} → Memᴰ x (sides_of k mark) → (T (0 <? mark) → (1 ≤ x) × (x ≤ k)) × (T (isnt (0 <? mark)) → x ≡ 0)
unfolding sides_of tab
side-mem k mark {x} m = (on, off)
  where
    on : T (0 <? mark) → (1 ≤ x) × (x ≤ k)
    on t =
        let r = tab-mem suc 0 k (subst (λ (l : List ℕ). Memᴰ x l) (if-true (0 <? mark) (tab_from 0 k suc) (0 ∷ []) t) m) in
        (omega (arith, r.3), omega (arith, r.2, r.3))

    off : T (isnt (0 <? mark)) → x ≡ 0
    off t = Memᴰ.eq_of_singleton (subst (λ (l : List ℕ). Memᴰ x l) (if-false (0 <? mark) (tab_from 0 k suc) (0 ∷ []) t) m)

pub mem-side : (k mark x : ℕ) → (T (0 <? mark) → (1 ≤ x) × (x ≤ k)) → (T (isnt (0 <? mark)) → x ≡ 0) → Memᴰ x (sides_of k mark)
unfolding sides_of tab
mem-side k mark x on off = go (decided (0 <? mark))
  where
    go : T (0 <? mark) ⊎ T (isnt (0 <? mark)) → Memᴰ x (if 0 <? mark then tab_from 0 k suc else 0 ∷ [])
    go (inl t) =
        let h = on t in
        let e : suc (x - 1) ≡ x = omega arith in
        rw (if-true (0 <? mark) (tab_from 0 k suc) (0 ∷ []) t) (subst (λ (y : ℕ). Memᴰ y (tab_from 0 k suc)) e (mem-tab suc 0 k (x - 1) (omega arith) (omega arith)))
    go (inr t) = rw (if-false (0 <? mark) (tab_from 0 k suc) (0 ∷ []) t) (Memᴰ.head (off t))

sides-rise : (k mark : ℕ) → Rising (λ x. x) (sides_of k mark)
unfolding sides_of tab
sides-rise k mark x y p = go (decided (0 <? mark))
  where
    single : Precedes x y (0 ∷ []) → ⊥
    single (now e m) = elim m [ ]
    single (later q) = nothing q

    go : T (0 <? mark) ⊎ T (isnt (0 <? mark)) → x < y
    go (inl t) = tab-rises 0 k x y (subst (λ (l : List ℕ). Precedes x y l) (if-true (0 <? mark) (tab_from 0 k suc) (0 ∷ []) t) p)
    go (inr t) = absurd (single (subst (λ (l : List ℕ). Precedes x y l) (if-false (0 <? mark) (tab_from 0 k suc) (0 ∷ []) t) p))

-- ---- side lists and side functions

module _ (k : ℕ) (frags : List ℕ) where
  options : List (List ℕ)
  options = map (sides_of k) frags

  options-length : length options ≡ length frags
  unfolding options
  options-length = length-map frags (sides_of k)

  option-at : (i : ℕ) → i < length frags → get_or options i [] ≡ sides_of k (get_or frags i 0)
  unfolding options
  option-at i h = within frags i h
    where
      within : (l : List ℕ) (i : ℕ) → i < length l → get_or (map (sides_of k) l) i [] ≡ sides_of k (get_or l i 0)
      within [] i h = absurd (omega arith)
      within (x ∷ l) zero h = refl
      within (x ∷ l) (suc i) h = within l i (omega arith)

  -- the member of a side list at each fragment
  pub sides-length : {sides : List ℕ} → Memᴰ sides (side_lists k frags) → length sides ≡ length frags
  unfolding side_lists options
  sides-length m = picks-length (choices-at options m) ∙ options-length

  pub sides-at : {sides : List ℕ} → Memᴰ sides (side_lists k frags) → (i : ℕ) → i < length frags → Memᴰ (get_or sides i 0) (sides_of k (get_or frags i 0))
  unfolding side_lists options
  sides-at {sides} m i h =
      subst (λ (l : List ℕ). Memᴰ (get_or sides i 0) l) (option-at i h) (picks_at 0 (choices-at options m) i (omega (arith, options-length)))

  pub sides-in : (sides : List ℕ) → length sides ≡ length frags → ((i : ℕ) → i < length frags → Memᴰ (get_or sides i 0) (sides_of k (get_or frags i 0)))
      → Memᴰ sides (side_lists k frags)
  unfolding side_lists options
  sides-in sides e h =
      choices-of (picks_of 0 sides options (e ∙ sym options-length) λ i l.
      let hi : i < length frags = omega (arith, options-length) in
      subst (λ (o : List ℕ). Memᴰ (get_or sides i 0) o) (sym (option-at i hi)) (h i hi))

  -- the order of side lists
  pub sides-order : {l j : List ℕ} → Precedes l j (side_lists k frags) → Earlier (length frags) (λ i. get_or l i 0) (λ i. get_or j i 0)
  unfolding side_lists options
  sides-order {l} {j} p =
      subst (λ (size : ℕ). Earlier size (λ i. get_or l i 0) (λ i. get_or j i 0)) options-length
      (sooner-earlier (λ x. x) (λ i h x y q. let hi : i < length frags = omega (arith, options-length) in
      sides-rise k (get_or frags i 0) x y (subst (λ (o : List ℕ). Precedes x y o) (option-at i hi) q)) (choices-order options l j p))

-- ---- places that agree

pub earlier-same : {size : ℕ} {f g f' g' : ℕ → ℕ} → ((i : ℕ) → i < size → f i ≡ f' i) → ((i : ℕ) → i < size → g i ≡ g' i) → Earlier size f g → Earlier size f' g'
earlier-same p q e =
    let at = e.at in
    let h = e.inside in
    record { at = at; inside = h; before = λ i l. sym (p i (omega arith)) ∙ e.before i l ∙ q i (omega arith); lower = omega (arith, p at h, q at h, e.lower) }

pub alike_same : {size : ℕ} {f g f' g' : ℕ → ℕ} → ((i : ℕ) → i < size → f i ≡ f' i) → ((i : ℕ) → i < size → g i ≡ g' i)
    → Alike size f g ⊎ Earlier size f g → Alike size f' g' ⊎ Earlier size f' g'
alike_same p q (inl a) = inl (record { same = λ i h. sym (p i h) ∙ a.same i h ∙ q i h })
alike_same p q (inr e) = inr (earlier-same p q e)

module _ {g : Grid} {kc kc' kf kf' : ℕ → Bool} where
  -- where less is kept, the classes serve still
  pub classes-less : ((c : ℕ) → c < g.n → T (kc' c) → T (kc c)) → ((i : ℕ) → i < g.m → T (kf' i) → T (kf i)) → TwoClasses g kc kf → TwoClasses g kc' kf'
  classes-less p q w = record {
    class = w.class;
    apart = λ i j c hi hj hc ki kj kept. w.apart i j c hi hj hc (q i hi ki) (q j hj kj) (p c hc kept);
  }

  module _ (p : (c : ℕ) → c < g.n → kc c ≡ kc' c) (q : (i : ℕ) → i < g.m → kf i ≡ kf' i) where
    pub lawful-same : {k : ℕ} {s s' : ℕ → ℕ} → ((i : ℕ) → i < g.m → s i ≡ s' i) → LawfulSides k g kc kf s → LawfulSides k g kc' kf' s'
    lawful-same e w = record {
      on = λ i h t. rw (← e i h) (w.on i h (rw (q i h) t));
      off = λ i h t. sym (e i h) ∙ w.off i h (rw (q i h) t);
      apart = λ i j c hi hj hc ki kj kept one clash.
          w.apart i j c hi hj hc (rw (q i hi) ki) (rw (q j hj) kj) (rw (p c hc) kept) (e i hi ∙ one ∙ sym (e j hj)) clash;
    }

-- first sides by other names for what is kept
pub first_sides_of-same : {k : ℕ} {g : Grid} {kc kc' kf kf' : ℕ → Bool} {s s' : ℕ → ℕ} → ((c : ℕ) → c < g.n → kc c ≡ kc' c) → ((i : ℕ) → i < g.m → kf i ≡ kf' i)
    → ((i : ℕ) → i < g.m → s i ≡ s' i) → FirstSides k g kc kf s → FirstSides k g kc' kf' s'
first_sides_of-same p q e w = record {
  fits = lawful-same p q e w.fits;
  first = λ other f. alike_same e (λ i h. refl) (w.first other (lawful-same (λ c h. sym (p c h)) (λ i h. sym (q i h)) (λ i h. refl) f));
}

-- ---- any side function

module _ (k : ℕ) (g : Grid) (cols frags : List ℕ) (size : length frags ≡ g.m) where
  -- its list is one of the side lists, and lawful
  pub sides-list : {s : ℕ → ℕ} → LawfulSides k g (marked cols) (marked frags) s → Memᴰ (tab g.m s) (side_lists k frags) × T (lawful g cols (tab g.m s))
  unfolding marked
  sides-list {s} w =
      (sides-in k frags (tab g.m s) (length-tab g.m s ∙ sym size) member, lawful-of g cols (tab g.m s) law)
    where
      member : (i : ℕ) → i < length frags → Memᴰ (get_or (tab g.m s) i 0) (sides_of k (get_or frags i 0))
      member i h = let hi : i < g.m = omega arith in rw (get_or-tab g.m s i 0 hi) (mem-side k (get_or frags i 0) (s i) (w.on i hi) (w.off i hi))

      kept : (i : ℕ) → i < g.m → 0 < s i → T (0 <? get_or frags i 0)
      kept i h pos = go (decided (0 <? get_or frags i 0))
        where
          go : T (0 <? get_or frags i 0) ⊎ T (isnt (0 <? get_or frags i 0)) → T (0 <? get_or frags i 0)
          go (inl t) = t
          go (inr t) = let e = w.off i h t in absurd (omega arith)

      law : (i j c : ℕ) → i < g.m → j < g.m → c < g.n → T (0 <? get_or (tab g.m s) i 0) → get_or (tab g.m s) i 0 ≡ get_or (tab g.m s) j 0 → T (0 <? get_or cols c 0) → T (conflict_on g c i j) → ⊥
      law i j c hi hj hc on e kc clash =
          let ei = get_or-tab g.m s i 0 hi in
          let ej = get_or-tab g.m s j 0 hj in
          let pos = <?-lt 0 (get_or (tab g.m s) i 0) on in
          let pi : 0 < s i = omega arith in
          let one : s i ≡ s j = sym ei ∙ e ∙ ej in
          w.apart i j c hi hj hc (kept i hi pi) (kept j hj (omega arith)) kc one clash

  -- the sides of a lawful side list
  pub list-sides : {sides : List ℕ} → Memᴰ sides (side_lists k frags) → T (lawful g cols sides) → LawfulSides k g (marked cols) (marked frags) (λ i. get_or sides i 0)
  unfolding marked
  list-sides {sides} m t = record {
    on = λ i h. (side-mem k (get_or frags i 0) (sides-at k frags m i (omega arith))).0;
    off = λ i h. (side-mem k (get_or frags i 0) (sides-at k frags m i (omega arith))).1;
    apart = λ i j c hi hj hc ki kj kc one clash.
        let on = (side-mem k (get_or frags i 0) (sides-at k frags m i (omega arith))).0 ki in
        lawful-at g cols sides t i j c hi hj hc (lt-<? 0 (get_or sides i 0) on.0) one kc clash;
  }

  pub error_free-of : {s : ℕ → ℕ} → LawfulSides k g (marked cols) (marked frags) s → T (error_free k g cols frags)
  unfolding error_free
  error_free-of w = let r = sides-list w in some_of (lawful g cols) r.0 r.1

  pub error_free-at : T (error_free k g cols frags) → (s : ℕ → ℕ) × LawfulSides k g (marked cols) (marked frags) s
  unfolding error_free
  error_free-at t = let r = some_at (lawful g cols) (side_lists k frags) t in (λ i. get_or r.0 i 0, list-sides r.1 r.2)

  -- where the table is error-free, the first lawful side list is one, and comes first among all side functions
  module _ (free : T (error_free k g cols frags)) where
    pub first_sides_of-in : Memᴰ (first_sides_of k g cols frags) (side_lists k frags) × T (lawful g cols (first_sides_of k g cols frags))
    unfolding error_free first_sides_of
    first_sides_of-in = first-is (lawful g cols) (side_lists k frags) [] free

    pub first_sides_of-length : length (first_sides_of k g cols frags) ≡ g.m
    first_sides_of-length = sides-length k frags first_sides_of-in.0 ∙ size

    pub first_sides_of-first : FirstSides k g (marked cols) (marked frags) (λ i. get_or (first_sides_of k g cols frags) i 0)
    unfolding first_sides_of
    first_sides_of-first = record {
      fits = list-sides first_sides_of-in.0 first_sides_of-in.1;
      first = λ other w. let r = sides-list w in go other (first-order (lawful g cols) [] r.0 r.1);
    }
      where
        these : List ℕ
        these = first (lawful g cols) (side_lists k frags) []

        go : (other : ℕ → ℕ) → (tab g.m other ≡ these) ⊎ Precedes these (tab g.m other) (side_lists k frags)
            → Alike g.m (λ i. get_or these i 0) other ⊎ Earlier g.m (λ i. get_or these i 0) other
        go other (inl e) = inl (record { same = λ i h. ap (λ (l : List ℕ). get_or l i 0) (sym e) ∙ get_or-tab g.m other i 0 h })
        go other (inr p) = inr (earlier-same (λ i h. refl) (λ i h. get_or-tab g.m other i 0 h) (subst (λ (n : ℕ). Earlier n (λ i. get_or these i 0) (λ i. get_or (tab g.m other) i 0)) size (sides-order k frags p)))

-- ---- any two classes

-- the side of a fragment of a class, 0 where it is removed
abbrev side_of : Bool → Bool → ℕ
side_of true true = 1
side_of true false = 2
side_of false b = 0

pub classes-sides : {g : Grid} {kc kf : ℕ → Bool} (w : TwoClasses g kc kf) → LawfulSides 2 g kc kf (λ i. side_of (kf i) (w.class i))
unfolding isnt
classes-sides {g} {kc} {kf} w = record {
  on = λ i h. on (kf i) (w.class i);
  off = λ i h. off (kf i) (w.class i);
  apart = λ i j c hi hj hc ki kj kept one clash. w.apart i j c hi hj hc ki kj kept (one_class (kf i) (w.class i) (kf j) (w.class j) ki kj one) clash;
}
  where
    on : (b x : Bool) → T b → (1 ≤ side_of b x) × (side_of b x ≤ 2)
    on true true t = (lit≤ tt, lit≤ tt)
    on true false t = (lit≤ tt, lit≤ tt)
    on false x t = absurd t

    off : (b x : Bool) → T (isnt b) → side_of b x ≡ 0
    off true x t = absurd t
    off false x t = refl

    one_class : (a x b y : Bool) → T a → T b → side_of a x ≡ side_of b y → x ≡ y
    one_class true true true true s t e = refl
    one_class true true true false s t e = absurd (omega arith)
    one_class true false true true s t e = absurd (omega arith)
    one_class true false true false s t e = refl
    one_class true x false y s t e = absurd t
    one_class false x b y s t e = absurd s

pub sides-classes : {g : Grid} {kc kf : ℕ → Bool} {s : ℕ → ℕ} → LawfulSides 2 g kc kf s → TwoClasses g kc kf
sides-classes {g} {kc} {kf} {s} w = record {
  class = λ i. s i =? 1;
  apart = λ i j c hi hj hc ki kj kept e clash. w.apart i j c hi hj hc ki kj kept (one_side (s i) (s j) (w.on i hi ki) (w.on j hj kj) e) clash;
}
  where
    one_side : (x y : ℕ) → (1 ≤ x) × (x ≤ 2) → (1 ≤ y) × (y ≤ 2) → (x =? 1) ≡ (y =? 1) → x ≡ y
    one_side x y hx hy e = go (ℕ_discrete x 1) (ℕ_discrete y 1)
      where
        go : Dec (x ≡ 1) → Dec (y ≡ 1) → x ≡ y
        go (yes p) (yes q) = p ∙ sym q
        go (yes p) (no q) = absurd (q (=?-eq y 1 (subst T e (rw p (=?-refl 1)))))
        go (no p) (yes q) = absurd (p (=?-eq x 1 (subst T (sym e) (rw q (=?-refl 1)))))
        go (no p) (no q) = omega arith

-- `error_free` holds exactly if two classes of the kept fragments exist with no conflict inside a class on a kept column
pub error_free-exactly : (g : Grid) (cols frags : List ℕ) → length frags ≡ g.m → T (error_free 2 g cols frags) ↔ TwoClasses g (marked cols) (marked frags)
error_free-exactly g cols frags size = (λ t. sides-classes (error_free-at 2 g cols frags size t).1, λ w. error_free-of 2 g cols frags size (classes-sides w))
