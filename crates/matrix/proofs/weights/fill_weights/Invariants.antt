use Rattle.below.proofs.FillLaws.{Filled}
use Rattle.matrix.specs.Algorithm.Cells.{table_weight}
use Rattle.matrix.proofs.weights.fill_weights.Given as goal

abbrev pub invariant-loop-i : goal.invariant-loop-i
invariant-loop-i l = Filled 128 (table_weight l.table) l.i l.weights
