-- Tests, sums and lists over the numbers below a bound: the vocabulary of all definitions.
-- Assumes nothing.
use Rattle.std.specs.Prelude.{ℕ, zero, suc, ◌+◌, ◌<◌, max, if◌then◌else◌, Bool, true, false, not, ◌&&◌, ◌||◌, List, [], ◌∷◌, ◌++◌, T, leb, ltb, eqb, get_or}

infixl 30 ◌or◌
infixl 35 ◌and◌
infix 40 ◌=?◌ ◌<?◌ ◌≤?◌
-- 1 where the test passes, and 0 where it fails
abbrev pub bit : Bool → ℕ
bit true = 1
bit false = 0

-- tests of numbers, and tests joined
unfoldable pub ◌=?◌ : ℕ → ℕ → Bool
a =? b = eqb a b

unfoldable pub ◌<?◌ : ℕ → ℕ → Bool
a <? b = ltb a b

unfoldable pub ◌≤?◌ : ℕ → ℕ → Bool
a ≤? b = leb a b

unfoldable pub ◌and◌ : Bool → Bool → Bool
a and b = a && b

unfoldable pub ◌or◌ : Bool → Bool → Bool
a or b = a || b

unfoldable pub isnt : Bool → Bool
isnt b = not b

-- the number at a place of a list, 0 past its end
abbrev pub nth : List ℕ → ℕ → ℕ
nth list i = get_or list i 0

-- the test passes at each number below n
unfoldable pub all_below : ℕ → (ℕ → Bool) → Bool
all_below zero p = true
all_below (suc n) p = all_below n p and p n

-- the test passes at some number below n
unfoldable pub any_below : ℕ → (ℕ → Bool) → Bool
any_below zero p = false
any_below (suc n) p = any_below n p or p n

-- f 0 + … + f (n - 1)
unfoldable pub sum_below : ℕ → (ℕ → ℕ) → ℕ
sum_below zero f = 0
sum_below (suc n) f = sum_below n f + f n

-- how many numbers below n pass the test
unfoldable pub count_below : ℕ → (ℕ → Bool) → ℕ
unfolding sum_below
count_below n p = sum_below n (λ i. bit (p i))

-- the lowest number below n that passes the test, and n where none does
unfoldable pub first_below : ℕ → (ℕ → Bool) → ℕ
first_below zero p = 0
first_below (suc n) p = let r = first_below n p in if r <? n then r else (if p n then n else suc n)

-- i is the lowest number below n that passes the test
pub record Lowest (n : ℕ) (p : ℕ → Bool) (i : ℕ) : Type 0 where
  pub inside : i < n
  pub holds : T (p i)
  pub before : (j : ℕ) → j < i → T (isnt (p j))

-- one more than the highest number below n that passes the test, and 0 where none does
unfoldable pub end_below : ℕ → (ℕ → Bool) → ℕ
end_below zero p = 0
end_below (suc n) p = let r = end_below n p in if p n then suc n else r

-- the largest of f 0, …, f (n - 1), and 0 where there is none
unfoldable pub max_below : ℕ → (ℕ → ℕ) → ℕ
max_below zero f = 0
max_below (suc n) f = max (max_below n f) (f n)

module _ {ℓ} {A : Type ℓ} where
  -- f k, f (k + 1), …, n of them
  unfoldable pub tab_from : ℕ → ℕ → (ℕ → A) → List A
  tab_from k zero f = []
  tab_from k (suc n) f = f k ∷ tab_from (suc k) n f

  -- f 0, …, f (n - 1)
  unfoldable pub tab : ℕ → (ℕ → A) → List A
  unfolding tab_from
  tab n f = tab_from 0 n f

  -- the lists one after the other
  unfoldable pub concat : List (List A) → List A
  concat [] = []
  concat (xs ∷ xss) = xs ++ concat xss
