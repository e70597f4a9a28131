-- Choosing by trying every choice in order (paper 01, "What the words mean": "Order among equals").
-- Assumes nothing.
use Rattle.std.specs.Prelude.{ℕ, Bool, false, List, [], ◌∷◌, map, length, get_or, replicate, if◌then◌else◌}
use Rattle.below.specs.Below.{◌=?◌, ◌<?◌, ◌≤?◌, ◌or◌, count_below, concat}

module _ {A : Type 0} where
  -- every list with one member from each of the lists of options; "at the first place where two choices differ", the earlier option comes first
  unfoldable pub choices : List (List A) → List (List A)
  choices [] = [] ∷ []
  choices (options ∷ rest) = concat (map (λ o. map (λ l. o ∷ l) (choices rest)) options)

  -- the members that pass the test, in order
  unfoldable pub passing : (A → Bool) → List A → List A
  passing p [] = []
  passing p (x ∷ xs) = if p x then x ∷ passing p xs else passing p xs

  -- some member passes the test
  unfoldable pub some : (A → Bool) → List A → Bool
  some p [] = false
  some p (x ∷ xs) = p x or some p xs

  -- the first member that passes the test, and d where none does
  unfoldable pub first : (A → Bool) → List A → A → A
  first p [] d = d
  first p (x ∷ xs) d = if p x then x else first p xs d

  -- the first of x and the members of a list that costs least
  unfoldable pub least_of : (A → ℕ) → A → List A → A
  least_of cost x [] = x
  least_of cost x (y ∷ ys) = let r = least_of cost y ys in if cost x ≤? cost r then x else r

  -- the first member that costs least, and d where there is none
  unfoldable pub first_least : (A → ℕ) → List A → A → A
  first_least cost [] d = d
  first_least cost (x ∷ xs) d = least_of cost x xs

-- "keep marks (1 kept, 0 removed)": the mark at a place says kept
unfoldable pub marked : List ℕ → ℕ → Bool
marked marks i = 0 <? get_or marks i 0

-- how many marks are 0
unfoldable pub zeros : List ℕ → ℕ
zeros marks = count_below (length marks) (λ i. get_or marks i 0 =? 0)

-- everything kept
unfoldable pub keep_all : ℕ → List ℕ
keep_all size = replicate size 1

-- every keep list; "at the first column where two choices differ, the one that keeps it comes first"
unfoldable pub keep_lists : ℕ → List (List ℕ)
keep_lists size = choices (replicate size (1 ∷ 0 ∷ []))
