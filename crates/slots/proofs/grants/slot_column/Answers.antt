-- `grants::slot_column` meets its contract. The loop's invariant: the fragments passed have had their turn.
use native.Mathlib.Omega.{arith}
use Rattle.matrix.specs.Algorithm.Matrix.{matrix_grid}
use Rattle.slots.proofs.GrantLaws.{column-over}
use Rattle.slots.proofs.grants.slot_column.Goals as goal

pub returns : goal.returns
unfolding matrix_grid
returns c =
    let a = c.args in
    let l = c.loop-f in
    column-over (matrix_grid a.m a.n a.cells.now) c.requires.0.rows l.slots a.c l.f (omega arith) l.invariant
