-- `rows::row_apart` meets its contract. The loop's invariant: the states below l have the fragment before them, and the others not yet.
-- Assumes nothing.
use Prim.Native.Nat.{◌+◌}
use Rattle.below.specs.Below.{nth}
use Rattle.ranks.specs.Algorithm.Tables.{Sweep}
use Rattle.ranks.specs.Algorithm.Lent.{weights_in, SameArrays}
use Rattle.fragment_pairs.specs.Algorithm.Layer.{with_fragment}
use Rattle.fragment_pairs.specs.Algorithm.Pairs.{row_start_of, pairs, along}
use Rattle.fragment_pairs.proofs.rows.row_apart.Given as goal

abbrev pub invariant-loop-l : goal.invariant-loop-l
invariant-loop-l l = record {
  weights : Sweep (along (with_fragment l.f (pairs (weights_in l.initial.t))) l.h) (nth (weights_in l.initial.t)) (nth (weights_in l.t)) (row_start_of l.h + l.d) (row_start_of l.h + l.l);
  arrays : SameArrays l.initial.t l.t;
}
