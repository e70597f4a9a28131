-- `cells::cell_at` meets its contract.
-- Assumes nothing.
use mathlib.Core.Path.{sym}
use Prim.Native.Nat.{◌+◌, ◌*◌}
use native.Mathlib.Omega.{arith}
use lib.ListN.{get_or-eq_default}
use Rattle.matrix.proofs.cells.cell_at.Goals as goal
use Rattle.matrix.proofs.cells.cell_at.Goals.{else-i-rows-via-then-i-rows+else-c-cells, else-i-rows-via-else-i-rows}

pub returns-else-i-rows : goal.returns-else-i-rows
returns-else-i-rows c =
    let a = c.args in
    elim c.else-i-rows.branch [
      | else-i-rows-via-then-i-rows+else-c-cells w ↦
          let row = w.if-i-rows.true in
          let past = w.if-c-cells.false in
          sym (get_or-eq_default a.cells.now 0 {n = a.i * 128 + a.c} (omega arith))
      | else-i-rows-via-else-i-rows w ↦ let past = w.if-i-rows.false in sym (get_or-eq_default a.cells.now 0 {n = a.i * 128 + a.c} (omega arith))
    ]
