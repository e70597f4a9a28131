-- What a passed test says: tests joined by `&&` and `||`, `if`, and the tests, sums and lists over the numbers below a bound.
-- Assumes nothing.
use Rattle.std.specs.Prelude.{if◌then◌else◌}
use mathlib.Core.Path.{◌≡◌, refl, sym, ap, ap₂, subst, ◌∙◌}
use mathlib.Core.Logic.{◌⊎◌, inl, inr}
use mathlib.Core.Bool.{Bool, true, false, not}
use Prim.Native.Nat.{ℕ, zero, suc, ◌+◌, ◌*◌, ◌≤◌, ◌<◌, zero-le, max}
use native.Mathlib.Nat.{le_of_suc-le-suc, not-suc-le-zero, eq-or-lt_of_le, le_refl, add-le-add, zero-add, suc-mul}
use native.Mathlib.Numerals.{add-one}
use native.Mathlib.Omega.{arith}
use lib.Dec.{T, leb→le, le→leb, nleb→lt, ltb→lt, lt→ltb, nltb→le, eqb→eq, eqb_refl}
use lib.ListN.{length, get_or}
use Rattle.below.specs.Below.{bit, all_below, any_below, sum_below, count_below, first_below, max_below, tab, tab_from, ◌=?◌, ◌<?◌, ◌≤?◌, ◌and◌, ◌or◌, isnt}

-- ---- tests

pub both : (a b : Bool) → T a → T b → T (a and b)
unfolding ◌and◌
both true b s t = t
both false b s t = s

pub left-of : (a b : Bool) → T (a and b) → T a
unfolding ◌and◌
left-of true b t = tt
left-of false b t = t

pub right_of : (a b : Bool) → T (a and b) → T b
unfolding ◌and◌
right_of true b t = t
right_of false b t = absurd t

pub or_left : (a b : Bool) → T a → T (a or b)
unfolding ◌or◌
or_left true b t = tt
or_left false b t = absurd t

pub or_right : (a b : Bool) → T b → T (a or b)
unfolding ◌or◌
or_right true b t = tt
or_right false b t = t

pub or_cases : (a b : Bool) → T (a or b) → T a ⊎ T b
unfolding ◌or◌
or_cases true b t = inl tt
or_cases false b t = inr t

-- a test passes or fails, and not both
pub decided : (b : Bool) → T b ⊎ T (isnt b)
unfolding isnt
decided true = inl tt
decided false = inr tt

pub T-isnt : (b : Bool) → T (isnt b) → T b → ⊥
unfolding isnt
T-isnt true p q = p
T-isnt false p q = q

pub isnt-T : (b : Bool) → (T b → ⊥) → T (isnt b)
unfolding isnt
isnt-T true f = f tt
isnt-T false f = tt

pub isnt-isnt : (b : Bool) → T (isnt (isnt b)) → T b
unfolding isnt
isnt-isnt true t = tt
isnt-isnt false t = t

pub T-isnt-isnt : (b : Bool) → T b → T (isnt (isnt b))
T-isnt-isnt b t = isnt-T (isnt b) (λ s. T-isnt b s t)

-- neither of two tests passes
pub neither : (a b : Bool) → T (isnt (a or b)) → T (isnt a) × T (isnt b)
neither a b t = (isnt-T a (λ s. T-isnt (a or b) t (or_left a b s)), isnt-T b (λ s. T-isnt (a or b) t (or_right a b s)))

pub isnt-or : (a b : Bool) → T (isnt a) → T (isnt b) → T (isnt (a or b))
isnt-or a b s t = isnt-T (a or b) (λ u. elim (or_cases a b u) [ inl v ↦ T-isnt a s v | inr v ↦ T-isnt b t v ])

pub isnt-and : (a b : Bool) → (T a → T (isnt b)) → T (isnt (a and b))
isnt-and a b f = isnt-T (a and b) (λ t. T-isnt b (f (left-of a b t)) (right_of a b t))

-- where two tests do not both pass, and the first does
pub not-both : (a b : Bool) → T (isnt (a and b)) → T a → T (isnt b)
not-both a b t s = isnt-T b (λ u. T-isnt (a and b) t (both a b s u))

-- a test and its value
pub passes : {a b : Bool} → a ≡ b → a ≡ true → T b
passes e h = subst T (sym h ∙ e) tt

pub fails : {a b : Bool} → a ≡ b → a ≡ false → T (isnt b)
unfolding isnt
fails e h = subst (λ (b : Bool). T (not b)) (sym h ∙ e) tt

pub is_true : (b : Bool) → T b → true ≡ b
is_true true t = refl
is_true false t = absurd t

pub is_false : (b : Bool) → T (isnt b) → false ≡ b
unfolding isnt
is_false true t = absurd t
is_false false t = refl

-- tests that pass together are equal
pub same_test : (a b : Bool) → (T a → T b) → (T b → T a) → a ≡ b
same_test true true f g = refl
same_test true false f g = absurd (f tt)
same_test false true f g = absurd (g tt)
same_test false false f g = refl

-- what holds of both branches, each where its test leads to it, holds of the `if`
pub if-ind : {A : Type 0} (P : A → Type 0) (b : Bool) {x y : A} → (T b → P x) → (T (isnt b) → P y) → P (if b then x else y)
unfolding isnt
if-ind P true f g = f tt
if-ind P false f g = g tt

pub if-true : {A : Type 0} (b : Bool) (x y : A) → T b → if b then x else y ≡ x
if-true true x y t = refl
if-true false x y t = absurd t

pub if-false : {A : Type 0} (b : Bool) (x y : A) → T (isnt b) → if b then x else y ≡ y
unfolding isnt
if-false true x y t = absurd t
if-false false x y t = refl

-- ---- tests of numbers

pub =?-eq : (a b : ℕ) → T (a =? b) → a ≡ b
unfolding ◌=?◌
=?-eq a b t = eqb→eq a b t

pub =?-refl : (a : ℕ) → T (a =? a)
unfolding ◌=?◌
=?-refl a = eqb_refl a

pub eq-=? : (a b : ℕ) → a ≡ b → T (a =? b)
eq-=? a b e = rw e (=?-refl b)

pub isnt-=? : (a b : ℕ) → T (isnt (a =? b)) → a ≡ b → ⊥
isnt-=? a b t e = T-isnt (a =? b) t (rw e (=?-refl b))

pub ne-isnt : (a b : ℕ) → (a ≡ b → ⊥) → T (isnt (a =? b))
ne-isnt a b f = isnt-T (a =? b) (λ t. f (=?-eq a b t))

pub <?-lt : (a b : ℕ) → T (a <? b) → a < b
unfolding ◌<?◌
<?-lt a b t = ltb→lt a b t

pub lt-<? : (a b : ℕ) → a < b → T (a <? b)
unfolding ◌<?◌
lt-<? a b h = lt→ltb a b h

pub isnt-<? : (a b : ℕ) → T (isnt (a <? b)) → b ≤ a
unfolding ◌<?◌ isnt
isnt-<? a b t = nltb→le a b t

pub le-isnt : (a b : ℕ) → b ≤ a → T (isnt (a <? b))
le-isnt a b h = isnt-T (a <? b) (λ t. let g = <?-lt a b t in absurd (omega arith))

pub ≤?-le : (a b : ℕ) → T (a ≤? b) → a ≤ b
unfolding ◌≤?◌
≤?-le a b t = leb→le a b t

pub le-≤? : (a b : ℕ) → a ≤ b → T (a ≤? b)
unfolding ◌≤?◌
le-≤? a b h = le→leb a b h

pub isnt-≤? : (a b : ℕ) → T (isnt (a ≤? b)) → b < a
unfolding ◌≤?◌ isnt
isnt-≤? a b t = nleb→lt a b t

-- ---- below a bound

below_suc : {i n : ℕ} → i < suc n → (i ≡ n) ⊎ (i < n)
below_suc h = eq-or-lt_of_le (le_of_suc-le-suc h)

pub all_below-at : (n : ℕ) (p : ℕ → Bool) → T (all_below n p) → (i : ℕ) → i < n → T (p i)
unfolding all_below
all_below-at zero p t i h = absurd (not-suc-le-zero h)
all_below-at (suc n) p t i h = go (all_below-at n p (left-of (all_below n p) (p n) t) i) (below_suc h)
  where
    go : (i < n → T (p i)) → (i ≡ n) ⊎ (i < n) → T (p i)
    go rest (inl e) = rw e (right_of (all_below n p) (p n) t)
    go rest (inr l) = rest l

pub all_below-of : (n : ℕ) (p : ℕ → Bool) → ((i : ℕ) → i < n → T (p i)) → T (all_below n p)
unfolding all_below
all_below-of zero p f = tt
all_below-of (suc n) p f = both (all_below n p) (p n) (all_below-of n p (λ i h. f i (omega arith))) (f n (omega arith))

pub any_below-of : (n : ℕ) (p : ℕ → Bool) (i : ℕ) → i < n → T (p i) → T (any_below n p)
unfolding any_below
any_below-of zero p i h t = absurd (not-suc-le-zero h)
any_below-of (suc n) p i h t = go (λ (l : i < n). any_below-of n p i l t) (below_suc h)
  where
    go : (i < n → T (any_below n p)) → (i ≡ n) ⊎ (i < n) → T (any_below n p or p n)
    go rest (inl e) = or_right (any_below n p) (p n) (rw e at t)
    go rest (inr l) = or_left (any_below n p) (p n) (rest l)

pub any_below-at : (n : ℕ) (p : ℕ → Bool) → T (any_below n p) → (i : ℕ) × (i < n) × T (p i)
unfolding any_below
any_below-at zero p t = absurd t
any_below-at (suc n) p t = go (any_below-at n p) (or_cases (any_below n p) (p n) t)
  where
    go : (T (any_below n p) → (i : ℕ) × (i < n) × T (p i)) → T (any_below n p) ⊎ T (p n) → (i : ℕ) × (i < suc n) × T (p i)
    go rest (inl s) = let r = rest s in (r.0, let h = r.1 in omega arith, r.2)
    go rest (inr s) = (n, le_refl (suc n), s)

pub all-ext : (n : ℕ) (p q : ℕ → Bool) → ((i : ℕ) → i < n → p i ≡ q i) → all_below n p ≡ all_below n q
unfolding all_below
all-ext zero p q h = refl
all-ext (suc n) p q h = ap₂ ◌and◌ (all-ext n p q (λ i l. h i (omega arith))) (h n (omega arith))

pub any-ext : (n : ℕ) (p q : ℕ → Bool) → ((i : ℕ) → i < n → p i ≡ q i) → any_below n p ≡ any_below n q
unfolding any_below
any-ext zero p q h = refl
any-ext (suc n) p q h = ap₂ ◌or◌ (any-ext n p q (λ i l. h i (omega arith))) (h n (omega arith))

-- the test passes at no number below n
pub none-at : (n : ℕ) (p : ℕ → Bool) → T (isnt (any_below n p)) → (i : ℕ) → i < n → T (isnt (p i))
none-at n p t i h = isnt-T (p i) (λ s. T-isnt (any_below n p) t (any_below-of n p i h s))

pub none_of : (n : ℕ) (p : ℕ → Bool) → ((i : ℕ) → i < n → T (isnt (p i))) → T (isnt (any_below n p))
none_of n p f = isnt-T (any_below n p) (λ t. let s = any_below-at n p t in T-isnt (p s.0) (f s.0 s.1) s.2)

pub sum-le : (n : ℕ) (f g : ℕ → ℕ) → ((i : ℕ) → i < n → f i ≤ g i) → sum_below n f ≤ sum_below n g
unfolding sum_below
sum-le zero f g h = le_refl 0
sum-le (suc n) f g h = add-le-add (sum-le n f g (λ i l. h i (omega arith))) (h n (omega arith))

pub sum-ext : (n : ℕ) (f g : ℕ → ℕ) → ((i : ℕ) → i < n → f i ≡ g i) → sum_below n f ≡ sum_below n g
unfolding sum_below
sum-ext zero f g h = refl
sum-ext (suc n) f g h = ap₂ ◌+◌ (sum-ext n f g (λ i l. h i (omega arith))) (h n (omega arith))

pub count-ext : (n : ℕ) (p q : ℕ → Bool) → ((i : ℕ) → i < n → p i ≡ q i) → count_below n p ≡ count_below n q
unfolding count_below
count-ext n p q h = sum-ext n (λ i. bit (p i)) (λ i. bit (q i)) (λ i l. ap bit (h i l))

bit_le : (a b : Bool) → (T a → T b) → bit a ≤ bit b
bit_le true true f = le_refl 1
bit_le true false f = absurd (f tt)
bit_le false b f = zero-le

-- a count is at most another where its test implies the other's
pub count-le : (n : ℕ) (p q : ℕ → Bool) → ((i : ℕ) → i < n → T (p i) → T (q i)) → count_below n p ≤ count_below n q
unfolding count_below
count-le n p q h = sum-le n (λ i. bit (p i)) (λ i. bit (q i)) (λ i l. bit_le (p i) (q i) (h i l))

-- … and less where the other passes once more
pub count-lt : (n : ℕ) (p q : ℕ → Bool) → ((i : ℕ) → i < n → T (p i) → T (q i)) → (j : ℕ) → j < n → T (isnt (p j)) → T (q j) → count_below n p < count_below n q
unfolding count_below sum_below isnt
count-lt zero p q h j hj a b = absurd (not-suc-le-zero hj)
count-lt (suc n) p q h j hj a b = go (λ (l : j < n). count-lt n p q (λ i l. h i (omega arith)) j l a b) (below_suc hj)
  where
    one_more : (x y : Bool) → T (isnt x) → T y → bit x < bit y
    one_more true y n s = absurd n
    one_more false true n s = le_refl 1
    one_more false false n s = absurd s

    go : (j < n → count_below n p < count_below n q) → (j ≡ n) ⊎ (j < n) → count_below n p + bit (p n) < count_below n q + bit (q n)
    go rest (inl e) =
        let u = count-le n p q (λ i l. h i (omega arith)) in
        let v = one_more (p n) (q n) (rw e at a) (rw e at b) in
        omega arith
    go rest (inr l) = let u = rest l in let v = bit_le (p n) (q n) (h n (omega arith)) in omega arith

pub count-bound : (n : ℕ) (p : ℕ → Bool) → count_below n p ≤ n
unfolding count_below sum_below
count-bound zero p = zero-le
count-bound (suc n) p = go (p n) (count-bound n p)
  where
    go : {k : ℕ} (b : Bool) → k ≤ n → k + bit b ≤ suc n
    go true h = omega arith
    go false h = omega arith

pub bit-marked : (b : Bool) → T (0 <? bit b) → T b
unfolding ◌<?◌
bit-marked true t = tt
bit-marked false t = t

pub marked-bit : (b : Bool) → T b → T (0 <? bit b)
unfolding ◌<?◌
marked-bit true t = tt
marked-bit false t = t

pub sum-at : (n : ℕ) (f : ℕ → ℕ) (i : ℕ) → i < n → f i ≤ sum_below n f
unfolding sum_below
sum-at zero f i h = absurd (not-suc-le-zero h)
sum-at (suc n) f i h = go (sum-at n f i) (below_suc h)
  where
    go : (i < n → f i ≤ sum_below n f) → (i ≡ n) ⊎ (i < n) → f i ≤ sum_below n f + f n
    go rest (inl e) = rw e (omega arith)
    go rest (inr l) = let r = rest l in omega arith

pub sum-zero : (n : ℕ) → sum_below n (λ i. 0) ≡ 0
unfolding sum_below
sum-zero zero = refl
sum-zero (suc n) = rw (sum-zero n)

-- a sum of numbers that are at most k
pub sum-most : (n : ℕ) (f : ℕ → ℕ) (k : ℕ) → ((i : ℕ) → i < n → f i ≤ k) → sum_below n f ≤ n * k
unfolding sum_below
sum-most zero f k h = zero-le
sum-most (suc n) f k h = let rest = sum-most n f k (λ i l. h i (omega arith)) in let last = h n (omega arith) in omega (arith, suc-mul n k)

pub sum-add : (n : ℕ) (f g : ℕ → ℕ) → sum_below n (λ i. f i + g i) ≡ sum_below n f + sum_below n g
unfolding sum_below
sum-add zero f g = refl
sum-add (suc n) f g = let e = sum-add n f g in omega arith

-- rows first or columns first
pub sum-swap : (m n : ℕ) (f : ℕ → ℕ → ℕ) → sum_below m (λ i. sum_below n (f i)) ≡ sum_below n (λ c. sum_below m (λ i. f i c))
unfolding sum_below
sum-swap zero n f = sym (sum-zero n)
sum-swap (suc m) n f = ap (λ (k : ℕ). k + sum_below n (f m)) (sum-swap m n f) ∙ sym (sum-add n (λ c. sum_below m (λ i. f i c)) (f m))

-- ---- one number more, as a loop's counter steps

pub sum-next : (i : ℕ) (f : ℕ → ℕ) → sum_below (i + 1) f ≡ sum_below i f + f i
unfolding sum_below
sum-next i f = rw add-one

pub count_none : (p : ℕ → Bool) → 0 ≡ count_below 0 p
unfolding count_below sum_below
count_none p = refl

pub count_next : (i : ℕ) (p : ℕ → Bool) → count_below (i + 1) p ≡ count_below i p + bit (p i)
unfolding count_below
count_next i p = sum-next i (λ k. bit (p k))

pub max-more : (i : ℕ) (f : ℕ → ℕ) {x y z : ℕ} → x ≡ max_below i f → y ≡ f i → z ≡ max x y → z ≡ max_below (i + 1) f
unfolding max_below
max-more i f e g h = h ∙ ap₂ max e g ∙ rw add-one

-- ---- the lowest number that passes

pub first_below-le : (n : ℕ) (p : ℕ → Bool) → first_below n p ≤ n
unfolding first_below
first_below-le zero p = zero-le
first_below-le (suc n) p =
    let r = first_below n p in
    if-ind (λ k. k ≤ suc n) (r <? n) (λ t. let h = <?-lt r n t in omega arith) (λ t. if-ind (λ k. k ≤ suc n) (p n) (λ s. omega arith) (λ s. omega arith))

-- where it is below n it passes
pub first_below-at : (n : ℕ) (p : ℕ → Bool) → first_below n p < n → T (p (first_below n p))
unfolding first_below
first_below-at zero p = λ h. absurd (not-suc-le-zero h)
first_below-at (suc n) p =
    let r = first_below n p in
    if-ind (λ k. k < suc n → T (p k)) (r <? n)
    (λ t h. first_below-at n p (<?-lt r n t))
    (λ t. if-ind (λ k. k < suc n → T (p k)) (p n) (λ s h. s) (λ s h. absurd (omega arith)))

-- no lower number passes
pub first_below-least : (n : ℕ) (p : ℕ → Bool) (j : ℕ) → j < n → T (p j) → first_below n p ≤ j
unfolding first_below
first_below-least zero p j h t = absurd (not-suc-le-zero h)
first_below-least (suc n) p j h t =
    let r = first_below n p in
    let deeper : j < n → r ≤ j = λ l. first_below-least n p j l t in
    if-ind (λ k. k ≤ j) (r <? n)
    (λ s. low deeper (<?-lt r n s) (below_suc h))
    (λ s. if-ind (λ k. k ≤ j) (p n) (λ q. high deeper (isnt-<? r n s) (below_suc h)) (λ q. none_left deeper (isnt-<? r n s) q (below_suc h)))
  where
    low : {r : ℕ} → (j < n → r ≤ j) → r < n → (j ≡ n) ⊎ (j < n) → r ≤ j
    low f l (inl e) = omega arith
    low f l (inr k) = f k

    high : {r : ℕ} → (j < n → r ≤ j) → n ≤ r → (j ≡ n) ⊎ (j < n) → n ≤ j
    high f l (inl e) = omega arith
    high f l (inr k) = let g = f k in omega arith

    none_left : {r : ℕ} → (j < n → r ≤ j) → n ≤ r → T (isnt (p n)) → (j ≡ n) ⊎ (j < n) → suc n ≤ j
    none_left f l q (inl e) = absurd (T-isnt (p n) q (rw e at t))
    none_left f l q (inr k) = let g = f k in absurd (omega arith)

-- ---- the lists of f 0, …, f (n - 1)

module _ {ℓ} {A : Type ℓ} where
  length-tab_from : (k n : ℕ) (f : ℕ → A) → length (tab_from k n f) ≡ n
  unfolding tab_from
  length-tab_from k zero f = refl
  length-tab_from k (suc n) f = ap suc (length-tab_from (suc k) n f)

  pub length-tab : (n : ℕ) (f : ℕ → A) → length (tab n f) ≡ n
  unfolding tab
  length-tab n f = length-tab_from 0 n f

  get_or-tab_from : (k n : ℕ) (f : ℕ → A) (i : ℕ) (d : A) → i < n → get_or (tab_from k n f) i d ≡ f (k + i)
  unfolding tab_from
  get_or-tab_from k zero f i d h = absurd (not-suc-le-zero h)
  get_or-tab_from k (suc n) f zero d h = ap f (omega arith)
  get_or-tab_from k (suc n) f (suc i) d h = get_or-tab_from (suc k) n f i d (omega arith) ∙ ap f (omega arith)

  pub get_or-tab : (n : ℕ) (f : ℕ → A) (i : ℕ) (d : A) → i < n → get_or (tab n f) i d ≡ f i
  unfolding tab
  get_or-tab n f i d h = get_or-tab_from 0 n f i d h ∙ ap f (zero-add i)
