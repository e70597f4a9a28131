-- `copying::births` meets its contract. The loop's invariant: the states from s on have the weights of state d.
-- Assumes nothing.
use Rattle.fragment_pairs.specs.Algorithm.Pairs.{pairs, Copied}
use Rattle.ranks.specs.Algorithm.Lent.{weights_in, SameArrays}
use Rattle.fragment_pairs.proofs.copying.births.Given as goal

abbrev pub invariant-loop-s : goal.invariant-loop-s
invariant-loop-s l = record {
  weights : Copied (pairs (weights_in l.initial.t)) (pairs (weights_in l.t)) l.s l.d l.n;
  arrays : SameArrays l.initial.t l.t;
}
