-- The part of a matrix of 128 numbers to a row that a table of m fragments fills.
-- Assumes nothing.
use Rattle.std.specs.Prelude.{List, ℕ, ◌+◌, ◌*◌}
use Rattle.below.specs.Below.{tab, concat, nth}

-- the first m numbers of the first m rows
unfoldable pub rows_of : ℕ → List ℕ → List ℕ
rows_of m matrix = concat (tab m (λ i. tab m (λ j. nth matrix (i * 128 + j))))
