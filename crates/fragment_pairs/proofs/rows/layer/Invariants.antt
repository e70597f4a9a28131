-- `rows::layer` meets its contract. The loop's invariant: the rows below h have the fragment before them, and the others not yet.
-- Assumes nothing.
use Rattle.below.specs.Below.{nth}
use Rattle.ranks.specs.Algorithm.Lent.{weights_in, SameArrays}
use Rattle.fragment_pairs.specs.Algorithm.Layer.{with_fragment}
use Rattle.fragment_pairs.specs.Algorithm.Pairs.{pairs, Rows}
use Rattle.fragment_pairs.proofs.rows.layer.Given as goal

abbrev pub invariant-loop-h : goal.invariant-loop-h
invariant-loop-h l = record {
  weights : Rows (with_fragment l.f (pairs (weights_in l.initial.t))) (nth (weights_in l.initial.t)) (nth (weights_in l.t)) l.d l.h;
  arrays : SameArrays l.initial.t l.t;
}
