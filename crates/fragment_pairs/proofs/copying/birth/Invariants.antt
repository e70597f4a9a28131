-- `copying::birth` meets its contract. The loop's invariant: state s has the weights of the next state with the states below h.
-- Assumes nothing.
use Rattle.below.specs.Below.{nth}
use Rattle.ranks.specs.Algorithm.Lent.{weights_in, SameArrays}
use Rattle.fragment_pairs.specs.Algorithm.Pairs.{Born}
use Rattle.fragment_pairs.proofs.copying.birth.Given as goal

abbrev pub invariant-loop-h : goal.invariant-loop-h
invariant-loop-h l = record {
  weights : Born (nth (weights_in l.initial.t)) (nth (weights_in l.t)) l.s l.h;
  arrays : SameArrays l.initial.t l.t;
}
