-- `letters::letter_totals` meets its contract. The invariant: the totals are those of the fragments passed.
-- Assumes nothing.
use Rattle.rewriting.specs.Algorithm.Letters.{Totals}
use Rattle.rewriting.proofs.letters.letter_totals.Given as goal

abbrev pub invariant-loop-i : goal.invariant-loop-i
invariant-loop-i l = Totals l.cells l.weights l.sides l.s l.letter l.i l.totals
