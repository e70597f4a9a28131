-- `letters::correct_row` meets its contract. The invariant: the columns passed hold their cells.
-- Assumes nothing.
use Rattle.below.proofs.FillLaws.{Filled}
use Rattle.rewriting.specs.Algorithm.Letters.{lettered_in}
use Rattle.rewriting.proofs.letters.correct_row.Given as goal

abbrev pub invariant-loop-c : goal.invariant-loop-c
invariant-loop-c l = Filled 128 (lettered_in l.n l.cells l.at l.letters) l.c l.row
