-- What C has settled before it writes.
-- Assumes nothing.
use Rattle.std.specs.Prelude.{◌≡◌, List, ℕ}
use Rattle.matrix.specs.Algorithm.Matrix.{weighted_grid}
use Rattle.conflicts.specs.Corrections.{cost, least_cost_sides_of}
use Rattle.rewriting.specs.Algorithm.Letters.{corrected_cells}

-- the sides of least cost, the cells after correction, and the cost
pub record Settled (m n : ℕ) (cells weights sides fixed : List ℕ) (total : ℕ) : Type 0 where
  pub least : sides ≡ least_cost_sides_of 2 (weighted_grid m n cells weights)
  pub turned : fixed ≡ corrected_cells m n cells weights sides
  pub costs : total ≡ cost 2 (weighted_grid m n cells weights) (least_cost_sides_of 2 (weighted_grid m n cells weights))
