-- `letters::add_row` meets its contract. The invariant: the columns passed have their new totals, the others their old ones.
-- Assumes nothing.
use Rattle.rewriting.specs.Algorithm.Letters.{with_row}
use Rattle.rewriting.proofs.LetterLaws.{Adding}
use Rattle.rewriting.proofs.letters.add_row.Given as goal

abbrev pub invariant-loop-c : goal.invariant-loop-c
invariant-loop-c l = Adding (with_row l.cells l.at l.weight l.letter l.initial.totals) l.initial.totals l.c l.totals
