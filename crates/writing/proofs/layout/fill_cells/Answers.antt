-- `layout::fill_cells` meets its contract. The loop's invariant: the first b bytes are those of the cells.
use native.Mathlib.Omega.{arith}
use Rattle.below.proofs.FillLaws.{filled-all}
use Rattle.fields.specs.Writing.{cell_bytes}
use Rattle.writing.proofs.layout.fill_cells.Goals as goal

pub returns : goal.returns
unfolding cell_bytes
returns c =
    let loop = c.loop-b in
    let s = loop.invariant.sized in
    filled-all _ _ loop.b _ loop.invariant (omega arith)
