-- `grants::fill_slots` meets its contract. The loop's invariant: the fragments that start at a column passed have their slots.
use native.Mathlib.Omega.{arith}
use Rattle.matrix.specs.Algorithm.Matrix.{matrix_grid}
use Rattle.slots.proofs.GrantLaws.{all-granted}
use Rattle.slots.proofs.grants.fill_slots.Goals as goal

pub returns : goal.returns
unfolding matrix_grid
returns c =
    let a = c.args in
    let l = c.loop-c in
    all-granted (matrix_grid a.m a.n a.cells.now) c.requires.0.rows l.slots l.c (omega arith) l.invariant
