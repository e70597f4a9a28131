-- `columns::Columns::eliminate` meets its contract. The loop's invariant: the table holds the least weights from column c on.
-- Assumes nothing.
use Rattle.below.specs.Below.{nth}
use Rattle.ranks.specs.Algorithm.Lent.{weights_in}
use Rattle.corrections.specs.Algorithm.Elimination.{HoldsFrom}
use Rattle.corrections.proofs.columns.Columns.eliminate.Given as goal

abbrev pub invariant-loop-c : goal.invariant-loop-c
invariant-loop-c l = HoldsFrom l.self l.c (nth (weights_in l.t))
