use native.Mathlib.Omega.{arith}
use Rattle.below.proofs.FillLaws.{filled-all}
use Rattle.matrix.specs.Algorithm.Cells.{table_weights}
use Rattle.matrix.proofs.weights.fill_weights.Goals as goal

pub returns : goal.returns
unfolding table_weights
returns c =
    let loop = c.loop-i in
    let s = loop.invariant.sized in
    filled-all 128 _ loop.i loop.weights loop.invariant (omega arith)
