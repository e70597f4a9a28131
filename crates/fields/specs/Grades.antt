-- Grades and their weights (paper 02, T-07).
-- Assumes nothing.
use Rattle.std.specs.Prelude.{ℕ, List, [], ◌∷◌, get_or}

-- "the sixteen weights, for grades 0 to 15"
unfoldable pub weights : List ℕ
weights = 1 ∷ 1 ∷ 2 ∷ 3 ∷ 4 ∷ 6 ∷ 8 ∷ 10 ∷ 13 ∷ 16 ∷ 20 ∷ 25 ∷ 31 ∷ 38 ∷ 46 ∷ 60 ∷ []

-- the weight of a grade. A number over 15 is no grade (refusal 5): it is given the weight 1, so that every weight lies between 1 and 60
unfoldable pub weight_of : ℕ → ℕ
unfolding weights
weight_of grade = get_or weights grade 1
