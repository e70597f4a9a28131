-- `fragments::Fragments::suffixes` meets its contract. The loop's invariant: the table holds the weights of the last k fragments.
-- Assumes nothing.
use Prim.Native.Nat.{◌-◌, ◌≤◌}
use Rattle.fragment_pairs.specs.Algorithm.Pairs.{pairs}
use Rattle.fragment_removal.specs.Algorithm.Holding.{HoldsFragments, Dead}
use Rattle.fragment_removal.specs.Algorithm.Matrix.{grid_in}
use Rattle.ranks.specs.Algorithm.Lent.{weights_in}
use Rattle.fragment_removal.proofs.fragments.Fragments.suffixes.Given as goal

abbrev pub invariant-loop-k : goal.invariant-loop-k
invariant-loop-k l = record {
  within : l.d ≤ l.self.m - l.k;
  dead : Dead (grid_in l.self) l.k l.d;
  held : HoldsFragments (grid_in l.self) l.k l.d (pairs (weights_in l.t));
}
