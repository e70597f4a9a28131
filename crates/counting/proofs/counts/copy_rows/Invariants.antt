-- `counts::copy_rows` meets its contract. The invariant: the rows before fragment i stand in the counts, and the next one starts at i × m.
-- Assumes nothing.
use mathlib.Core.Path.{◌≡◌}
use Prim.Native.Nat.{◌*◌}
use Rattle.below.specs.Below.{nth}
use Rattle.below.proofs.FillLaws.{Filled}
use Rattle.counting.specs.Algorithm.Rows.{rows_of}
use Rattle.counting.proofs.counts.copy_rows.Given as goal

abbrev pub invariant-loop-i : goal.invariant-loop-i
invariant-loop-i l = Filled (l.m * l.m) (nth (rows_of l.m l.matrix)) l.first l.counts × (l.first ≡ l.i * l.m)
