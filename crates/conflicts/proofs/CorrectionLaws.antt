-- What a side list costs, against any set of calls; and what its own corrections are. Over any number of sides.
-- Assumes nothing.
use Rattle.std.specs.Prelude.{if◌then◌else◌}
use mathlib.Core.Path.{◌≡◌, refl, sym, ap, subst, ◌∙◌}
use mathlib.Core.Logic.{◌⊎◌, inl, inr}
use mathlib.Core.Bool.{Bool, true, false}
use mathlib.Core.List.{List}
use Prim.Native.Nat.{ℕ, zero, suc, ◌+◌, ◌-◌, ◌≤◌, ◌<◌, min, zero-le}
use native.Mathlib.Nat.{le_refl}
use native.Mathlib.Decide.{ℕ_discrete}
use native.Mathlib.Omega.{arith}
use lib.Dec.{T}
use lib.ListN.{get_or}
use borrow.Author.Tests.{eq-eqb, ne_eqb}
use Rattle.below.specs.Below.{nth, ◌=?◌, ◌<?◌, ◌and◌, ◌or◌, isnt, any_below, sum_below}
use Rattle.fields.specs.Record.{is_call_code}
use Rattle.below.proofs.BelowLaws.{both, left-of, right_of, or_left, or_right, or_cases, decided, T-isnt, isnt-isnt, same_test, if-ind, if-true, if-false, =?-eq, =?-refl, eq-=?, isnt-=?, ne-isnt, <?-lt, isnt-<?, any_below-at, any_below-of, sum-le, sum-ext, sum-swap}
use Rattle.records.proofs.ExtentLaws.{call-range, call-of}
use Rattle.conflicts.specs.Grid.{Grid, with_cells, calls_conflict, conflict_on}
use Rattle.conflicts.specs.Corrections.{correction_cost, letter_weight, side_price, majority_letter, column_cost, cost, side_letter, corrected_cell, corrected, differs, cell_total, changed_total, turned}
use Rattle.conflicts.proofs.GridLaws.{conflict-self}
use Rattle.conflicts.proofs.LetterLaws.{letter-call}

-- ---- codes

-- two codes that conflict are calls
pub conflict-calls : (x y : ℕ) → T (calls_conflict x y) → T (is_call_code x) × T (is_call_code y)
unfolding calls_conflict is_call_code
conflict-calls x y t = go (or_cases _ _ t)
  where
    go : T (x =? 1 and y =? 2) ⊎ T (x =? 2 and y =? 1) → T (x =? 1 or x =? 2) × T (y =? 1 or y =? 2)
    go (inl s) = (or_left _ _ (left-of _ _ s), or_right _ _ (right_of _ _ s))
    go (inr s) = (or_right _ _ (left-of _ _ s), or_left _ _ (right_of _ _ s))

-- two cells that become one letter, if they are calls, do not conflict
one-letter : (x y a : ℕ) → T (calls_conflict (if is_call_code x then a else x) (if is_call_code y then a else y)) → ⊥
one-letter x y a =
    if-ind (λ u. T (calls_conflict u (if is_call_code y then a else y)) → ⊥) (is_call_code x)
    (λ cx. if-ind (λ v. T (calls_conflict a v) → ⊥) (is_call_code y) (λ cy. conflict-self a) (λ cy t. T-isnt _ cy (conflict-calls a y t).1))
    (λ cx t. T-isnt _ cx (conflict-calls x (if is_call_code y then a else y) t).0)

-- a cell that changes when calls become a letter is a call
changing : (x letter : ℕ) → T (isnt (x =? (if is_call_code x then letter else x))) → T (is_call_code x)
changing x letter = if-ind (λ y. T (isnt (x =? y)) → T (is_call_code x)) (is_call_code x) (λ t s. t) (λ t s. absurd (T-isnt (x =? x) s (=?-refl x)))

-- the calls that change are those of the other letter
changes : (x letter : ℕ) → T (is_call_code letter) → isnt (x =? (if is_call_code x then letter else x)) ≡ x =? 3 - letter
changes x letter l = same_test _ _ forth back
  where
    forth : T (isnt (x =? (if is_call_code x then letter else x))) → T (x =? 3 - letter)
    forth t =
        let call = changing x letter t in
        let other = isnt-=? x letter (subst (λ (y : ℕ). T (isnt (x =? y))) (if-true (is_call_code x) letter x call) t) in
        let a = call-range x call in
        let b = call-range letter l in
        eq-=? x (3 - letter) (omega arith)

    back : T (x =? 3 - letter) → T (isnt (x =? (if is_call_code x then letter else x)))
    back t =
        let e = =?-eq x (3 - letter) t in
        let b = call-range letter l in
        let call : T (is_call_code x) = call-of x (omega arith) (omega arith) in
        subst (λ (y : ℕ). T (isnt (x =? y))) (sym (if-true (is_call_code x) letter x call)) (ne-isnt x letter (λ q. omega arith))

-- and they turn
turns-over : (x letter : ℕ) → T (is_call_code letter) → (if is_call_code x then letter else x) ≡ (if isnt (x =? (if is_call_code x then letter else x)) then 3 - x else x)
turns-over x letter l = go (decided (isnt (x =? y)))
  where
    y : ℕ
    y = if is_call_code x then letter else x

    go : T (isnt (x =? y)) ⊎ T (isnt (isnt (x =? y))) → y ≡ (if isnt (x =? y) then 3 - x else x)
    go (inl t) =
        let e = =?-eq x (3 - letter) (subst T (changes x letter l) t) in
        let b = call-range letter l in
        if-true (is_call_code x) letter x (changing x letter t) ∙ sym (if-true (isnt (x =? y)) (3 - x) x t ∙ omega arith)
    go (inr t) = sym (=?-eq x y (isnt-isnt (x =? y) t)) ∙ sym (if-false (isnt (x =? y)) (3 - x) x t)

-- ---- tests and sums

and-ext : (a p q : Bool) → (T a → p ≡ q) → (a and p) ≡ (a and q)
unfolding ◌and◌
and-ext true p q f = f tt
and-ext false p q f = refl

-- what a number weighs where a test passes is at most what it weighs where another passes too
if-le : (p q : Bool) (w : ℕ) → (T p → T q) → (if p then w else 0) ≤ (if q then w else 0)
if-le true true w f = le_refl w
if-le true false w f = absurd (f tt)
if-le false q w f = zero-le

is_one : (x y w : ℕ) (b : Bool) → x ≡ y → (if x =? y and b then w else 0) ≡ (if b then w else 0)
unfolding ◌and◌ ◌=?◌
is_one x y w b e = rw (eq-eqb x y e)

is-other : (x y w : ℕ) (b : Bool) → (x ≡ y → ⊥) → ◌≡◌ {A = ℕ} (if x =? y and b then w else 0) 0
unfolding ◌and◌ ◌=?◌
is-other x y w b f = rw (ne_eqb x y f)

-- a side above k is none of 1 to k
above : (k x w : ℕ) (b : Bool) → k < x → sum_below k (λ s. if x =? suc s and b then w else 0) ≡ 0
unfolding sum_below
above zero x w b h = refl
above (suc k) x w b h =
    let rest = above k x w b (omega arith) in
    let last = is-other x (suc k) w b (λ e. omega arith) in
    omega arith

-- a side from 1 to k is one of them, once
once : (k x w : ℕ) (b : Bool) → 1 ≤ x → x ≤ k → sum_below k (λ s. if x =? suc s and b then w else 0) ≡ (if b then w else 0)
unfolding sum_below
once zero x w b low high = absurd (omega arith)
once (suc k) x w b low high = go (once k x w b low) (ℕ_discrete x (suc k))
  where
    go : (x ≤ k → sum_below k (λ s. if x =? suc s and b then w else 0) ≡ (if b then w else 0)) → Dec (x ≡ suc k)
        → sum_below k (λ s. if x =? suc s and b then w else 0) + (if x =? suc k and b then w else 0) ≡ (if b then w else 0)
    go rest (yes e) = let none = above k x w b (omega arith) in let last = is_one x (suc k) w b e in omega arith
    go rest (no f) = let same = rest (omega arith) in let last = is-other x (suc k) w b f in omega arith

-- ---- the calls of a set on a side

-- what the cells of a set on side s at column c come to
unfoldable pub set_total : Grid → List ℕ → (ℕ → ℕ → Bool) → ℕ → ℕ → ℕ
set_total g sides set s c = sum_below g.m (λ i. if get_or sides i 0 =? s and set i c then correction_cost g i else 0)

module _ (g : Grid) (sides : List ℕ) where
  -- every fragment is on one of k sides: a set's cells are those on the sides, column by column
  cells-by-side : (k : ℕ) → ((i : ℕ) → i < g.m → (1 ≤ get_or sides i 0) × (get_or sides i 0 ≤ k)) → (set : ℕ → ℕ → Bool)
      → cell_total g set ≡ sum_below g.n (λ c. sum_below k (λ s. set_total g sides set (suc s) c))
  unfolding cell_total set_total
  cells-by-side k on set =
      sum-swap g.m g.n (λ i c. if set i c then correction_cost g i else 0)
      ∙ sum-ext g.n _ _ λ c hc.
      sum-ext g.m _ (λ i. sum_below k (λ s. if get_or sides i 0 =? suc s and set i c then correction_cost g i else 0))
      (λ i hi. sym (once k (get_or sides i 0) (correction_cost g i) (set i c) (on i hi).0 (on i hi).1))
      ∙ sum-swap g.m k (λ i s. if get_or sides i 0 =? suc s and set i c then correction_cost g i else 0)

  module _ (set : ℕ → ℕ → Bool) (s c : ℕ) where
    -- a letter that no fragment of the side has after the set is turned: each that had it is in the set
    absent : (letter : ℕ) → ((i : ℕ) → i < g.m → get_or sides i 0 ≡ s → (turned g set).cell i c ≡ letter → ⊥) → letter_weight g (nth sides) s c letter ≤ set_total g sides set s c
    unfolding turned with_cells set_total letter_weight
    absent letter away =
        sum-le g.m _ _ λ i hi. if-le (get_or sides i 0 =? s and g.cell i c =? letter) (get_or sides i 0 =? s and set i c) (correction_cost g i) λ t.
        let was = =?-eq _ _ (right_of _ _ t) in
        both _ _ (left-of _ _ t) (stays i hi (=?-eq _ _ (left-of _ _ t)) was (decided (set i c)))
      where
        stays : (i : ℕ) → i < g.m → get_or sides i 0 ≡ s → g.cell i c ≡ letter → T (set i c) ⊎ T (isnt (set i c)) → T (set i c)
        stays i hi on was (inl t) = t
        stays i hi on was (inr t) = absurd (away i hi on (if-false (set i c) (3 - g.cell i c) (g.cell i c) t ∙ was))

    -- where the set, turned, leaves no conflict inside the side at the column, its cells there come to at least the price
    pub price-bound : ((i j : ℕ) → i < g.m → j < g.m → get_or sides i 0 ≡ s → get_or sides j 0 ≡ s → T (conflict_on (turned g set) c i j) → ⊥)
        → side_price (letter_weight g (nth sides) s c 1) (letter_weight g (nth sides) s c 2) ≤ set_total g sides set s c
    unfolding side_price conflict_on calls_conflict
    price-bound apart = go (decided (any_below g.m is_a))
      where
        is_a : ℕ → Bool
        is_a i = get_or sides i 0 =? s and (turned g set).cell i c =? 1

        go : T (any_below g.m is_a) ⊎ T (isnt (any_below g.m is_a)) → side_price (letter_weight g (nth sides) s c 1) (letter_weight g (nth sides) s c 2) ≤ set_total g sides set s c
        go (inr away) =
            let n = absent 1 (λ i hi on a. T-isnt _ away (any_below-of g.m is_a i hi (both _ _ (rw on (=?-refl s)) (rw a (=?-refl 1))))) in
            omega arith
        go (inl there) =
            let k = any_below-at g.m is_a there in
            let n = absent 2 (λ i hi on b.
            apart k.0 i k.1 hi (=?-eq _ _ (left-of _ _ k.2)) on (or_left _ _ (both _ _ (right_of _ _ k.2) (rw b (=?-refl 2))))) in
            omega arith

  -- C's own changes on a side: the calls of the letter that it does not turn to
  changed-weight : (s c : ℕ) → set_total g sides (differs g (corrected g sides)) s c ≡ letter_weight g (nth sides) s c (3 - side_letter g sides s c)
  unfolding set_total letter_weight differs corrected with_cells corrected_cell
  changed-weight s c =
      sum-ext g.m _ _ λ i hi. ap (λ (b : Bool). if b then correction_cost g i else 0) (and-ext (get_or sides i 0 =? s) _ _ λ on.
      changes (g.cell i c) (side_letter g sides (get_or sides i 0) c) (letter-call g sides (get_or sides i 0) c)
      ∙ ap (λ (t : ℕ). g.cell i c =? 3 - side_letter g sides t c) (=?-eq (get_or sides i 0) s on))

  pub price-exact : (s c : ℕ) → set_total g sides (differs g (corrected g sides)) s c ≡ side_price (letter_weight g (nth sides) s c 1) (letter_weight g (nth sides) s c 2)
  unfolding side_letter majority_letter side_price
  price-exact s c =
      changed-weight s c
      ∙ if-ind (λ letter. letter_weight g (nth sides) s c (3 - letter) ≡ min a b) (a <? b) (λ t. let h = <?-lt a b t in omega arith) (λ t. let h = isnt-<? a b t in omega arith)
    where
      a : ℕ
      a = letter_weight g (nth sides) s c 1

      b : ℕ
      b = letter_weight g (nth sides) s c 2

  -- ---- the whole matrix

  module _ (k : ℕ) (on : (i : ℕ) → i < g.m → (1 ≤ get_or sides i 0) × (get_or sides i 0 ≤ k)) where
    -- a set of cells that, turned, leaves no conflict inside a side comes to at least what the side list costs
    pub cost-bound : (set : ℕ → ℕ → Bool)
        → ((i j c : ℕ) → i < g.m → j < g.m → c < g.n → get_or sides i 0 ≡ get_or sides j 0 → T (conflict_on (turned g set) c i j) → ⊥)
        → cost k g sides ≤ cell_total g set
    unfolding cost column_cost
    cost-bound set apart =
        rw (cells-by-side k on set)
        (sum-le g.n _ _ λ c hc. sum-le k _ _ λ s hs. price-bound set (suc s) c λ i j hi hj a b. apart i j c hi hj hc (a ∙ sym b))

    -- C's own changes come to exactly that
    pub cost-exact : changed_total g (corrected g sides) ≡ cost k g sides
    unfolding changed_total cost column_cost
    cost-exact =
        cells-by-side k on (differs g (corrected g sides))
        ∙ sum-ext g.n _ _ λ c hc. sum-ext k _ _ λ s hs. price-exact (suc s) c

-- ---- the corrected matrix

module _ (g : Grid) (sides : List ℕ) where
  -- no conflict inside a side
  pub corrected-apart : (i j c : ℕ) → get_or sides i 0 ≡ get_or sides j 0 → T (conflict_on (corrected g sides) c i j) → ⊥
  unfolding conflict_on corrected with_cells corrected_cell
  corrected-apart i j c e clash =
      one-letter (g.cell i c) (g.cell j c) (side_letter g sides (get_or sides j 0) c)
      (subst (λ (s : ℕ). T (calls_conflict (if is_call_code (g.cell i c) then side_letter g sides s c else g.cell i c) (corrected_cell g sides j c))) e clash)

  -- a changed cell was a call, and the change is to the other letter
  pub changed-call : (i c : ℕ) → T (differs g (corrected g sides) i c) → T (is_call_code (g.cell i c))
  unfolding differs corrected with_cells corrected_cell
  changed-call i c t = changing (g.cell i c) (side_letter g sides (get_or sides i 0) c) t

  pub corrected-turned : (i c : ℕ) → (corrected g sides).cell i c ≡ (turned g (differs g (corrected g sides))).cell i c
  unfolding turned differs corrected with_cells corrected_cell
  corrected-turned i c = turns-over (g.cell i c) (side_letter g sides (get_or sides i 0) c) (letter-call g sides (get_or sides i 0) c)
