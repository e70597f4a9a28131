-- The matrix that the programme goes through.
-- Assumes nothing.
use Rattle.conflicts.specs.Grid.{Grid}
use Rattle.masks.specs.Algorithm.Masks.{words_grid}
use Rattle.fragment_removal.specs.declared.fragments.Fragments.{Fragments}

-- the matrix of the fragments
abbrev pub grid_in : Fragments → Grid
grid_in fragments = words_grid fragments.m fragments.n fragments.masks.now
