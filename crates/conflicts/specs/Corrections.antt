-- The least corrections (paper 01, "What the words mean": C; paper 02, T-07: by weights). Over any number of classes k; paper 01 has two.
-- Assumes nothing.
use Rattle.std.specs.Prelude.{ℕ, suc, ◌-◌, min, Bool, List, [], get_or, if◌then◌else◌}
use Rattle.below.specs.Below.{nth, ◌=?◌, ◌<?◌, ◌and◌, isnt, sum_below}
use Rattle.fields.specs.Record.{is_call_code}
use Rattle.conflicts.specs.Choice.{first_least, keep_all}
use Rattle.conflicts.specs.Grid.{Grid, with_cells}
use Rattle.conflicts.specs.Sides.{side_lists}

-- "the cost of a correction is its fragment's weight"
unfoldable pub correction_cost : Grid → ℕ → ℕ
correction_cost g i = g.weight i

-- the weight of a letter on side s at column c, at given sides of the fragments: what it costs to turn every such call
unfoldable pub letter_weight : Grid → (ℕ → ℕ) → ℕ → ℕ → ℕ → ℕ
letter_weight g side s c letter = sum_below g.m (λ i. if side i =? s and g.cell i c =? letter then correction_cost g i else 0)

-- the price of a side at a column: the smaller of the weights of A and B
unfoldable pub side_price : ℕ → ℕ → ℕ
side_price a b = min a b

-- the letter that a side turns to at a column, by its weights of A and B: "the letter of smaller weight changes; equal weights turn B to A"
unfoldable pub majority_letter : ℕ → ℕ → ℕ
majority_letter a b = if a <? b then 2 else 1

-- what column c costs at given sides: the sum over the k sides of the price
unfoldable pub column_cost : ℕ → Grid → ℕ → (ℕ → ℕ) → ℕ
column_cost k g c side = sum_below k (λ s. side_price (letter_weight g side (suc s) c 1) (letter_weight g side (suc s) c 2))

-- "the cost": the sum over columns and sides of the price
unfoldable pub cost : ℕ → Grid → List ℕ → ℕ
cost k g sides = sum_below g.n (λ c. column_cost k g c (nth sides))

-- C's sides: the first side list of "least cost"
unfoldable pub least_cost_sides_of : ℕ → Grid → List ℕ
least_cost_sides_of k g = first_least (cost k g) (side_lists k (keep_all g.m)) []

-- the letter of side s at column c
unfoldable pub side_letter : Grid → List ℕ → ℕ → ℕ → ℕ
side_letter g sides s c = majority_letter (letter_weight g (nth sides) s c 1) (letter_weight g (nth sides) s c 2)

-- a cell "after correction": a call becomes its side's letter, and a hole stays
unfoldable pub corrected_cell : Grid → List ℕ → ℕ → ℕ → ℕ
corrected_cell g sides i c = if is_call_code (g.cell i c) then side_letter g sides (get_or sides i 0) c else g.cell i c

-- the matrix after correction
unfoldable pub corrected : Grid → List ℕ → Grid
corrected g sides = with_cells g (corrected_cell g sides)

-- two matrices of one size differ in a cell
unfoldable pub differs : Grid → Grid → ℕ → ℕ → Bool
differs g h i c = isnt (g.cell i c =? h.cell i c)

-- the "total" of a set of cells of the matrix: the sum of what each costs
unfoldable pub cell_total : Grid → (ℕ → ℕ → Bool) → ℕ
cell_total g cells = sum_below g.m (λ i. sum_below g.n (λ c. if cells i c then correction_cost g i else 0))

-- "the sum over the changed cells"
unfoldable pub changed_total : Grid → Grid → ℕ
changed_total g h = cell_total g (differs g h)

-- "a correction turns one A into B or one B into A": the matrix with each cell of a set turned, and nothing else
unfoldable pub turned : Grid → (ℕ → ℕ → Bool) → Grid
turned g cells = with_cells g (λ i c. if cells i c then 3 - g.cell i c else g.cell i c)
