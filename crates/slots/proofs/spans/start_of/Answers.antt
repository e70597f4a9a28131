-- `spans::start_of` meets its contract. The loop's invariant: no column passed is called.
use mathlib.Core.Path.{sym, ◌∙◌}
use native.Mathlib.Omega.{arith}
use Rattle.below.proofs.SearchLaws.{first-hit, first-none}
use Rattle.matrix.specs.Algorithm.Matrix.{matrix_grid}
use Rattle.slots.specs.Algorithm.Columns.{first_column}
use Rattle.slots.proofs.spans.start_of.Goals as goal

pub returns-then-call_at : goal.returns-then-call_at
unfolding first_column matrix_grid
returns-then-call_at c m =
    let l = c.loop-c in
    sym (first-hit c.args.n _ l.c c.loop-c-test.true l.invariant (sym c.call_at.ensures ∙ c.if-call_at.true))

pub returns : goal.returns
unfolding first_column matrix_grid
returns c m = let l = c.loop-c in sym (first-none _ _ l.c (omega arith) l.invariant)
