-- `programme::suffixes` meets its contract. The loop's invariant: the table holds the weights of the last k columns.
-- Assumes nothing.
use mathlib.Core.Path.{◌≡◌}
use Rattle.below.specs.Below.{nth}
use Rattle.ranks.specs.Algorithm.Lent.{weights_in}
use Rattle.conflicts.specs.Grid.{Grid}
use Rattle.masks.specs.Algorithm.Masks.{transposed, Masks}
use Rattle.snp_removal.specs.Algorithm.Programme.{HoldsColumns}
use Rattle.snp_removal.proofs.programme.suffixes.Given as goal

abbrev pub invariant-loop-k : goal.invariant-loop-k
invariant-loop-k l = (g : Grid) → Masks (transposed g) l.columns → l.n ≡ g.n → HoldsColumns g 0 (nth (weights_in l.initial.t)) → HoldsColumns g l.k (nth (weights_in l.t))
