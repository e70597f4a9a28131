-- `programme::column` meets its contract. The loop's invariant: the states below j have the column before them, and the others not yet.
-- Assumes nothing.
use mathlib.Core.Path.{◌≡◌}
use Rattle.below.specs.Below.{nth}
use Rattle.ranks.specs.Algorithm.Weight.{removal}
use Rattle.ranks.specs.Algorithm.Reading.{value}
use Rattle.ranks.specs.Algorithm.Tables.{Sweep}
use Rattle.ranks.specs.Algorithm.Lent.{weights_in}
use Rattle.snp_removal.specs.Algorithm.Columns.{words_follow}
use Rattle.snp_removal.specs.Algorithm.Programme.{if_follows}
use Rattle.snp_removal.proofs.programme.column.Given as goal

abbrev pub invariant-loop-j : goal.invariant-loop-j
invariant-loop-j l = record {
  out : value l.out ≡ removal l.i;
  swept : Sweep (λ j. if_follows (words_follow l.columns j l.i) l.i (nth (weights_in l.initial.t)) j) (nth (weights_in l.initial.t)) (nth (weights_in l.t)) 0 l.j;
}
