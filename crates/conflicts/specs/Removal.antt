-- The least removals (paper 01, "What the words mean": S and F; paper 001, MSR and MFR).
-- Assumes nothing.
use Rattle.std.specs.Prelude.{List, [], ℕ}
use Rattle.conflicts.specs.Choice.{passing, first_least, zeros, keep_all, keep_lists}
use Rattle.conflicts.specs.Grid.{Grid}
use Rattle.conflicts.specs.Sides.{error_free}

-- "S removes the fewest columns so that the rest is error-free": the keep marks of the columns
unfoldable pub snp_keep_marks_of : Grid → List ℕ
snp_keep_marks_of g = first_least zeros (passing (λ keep_cols. error_free 2 g keep_cols (keep_all g.m)) (keep_lists g.n)) []

-- "F removes the fewest fragments": the keep marks of the fragments
unfoldable pub fragment_keep_marks_of : Grid → List ℕ
fragment_keep_marks_of g = first_least zeros (passing (λ keep_frags. error_free 2 g (keep_all g.n) keep_frags) (keep_lists g.m)) []
