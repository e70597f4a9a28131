-- `calls::ShallowTable::settle` meets its contract.
-- Assumes nothing.
use mathlib.Core.Path.{sym}
use Rattle.matrix.proofs.KeptLaws.{table-matrix}
use Rattle.matrix.proofs.TableLaws.{table-weights}
use Rattle.correcting.proofs.TableCorrectionLaws.{settled-sides}
use Rattle.correcting.proofs.calls.ShallowTable.settle.Goals as goal

pub least_cost_sides-total-requires : goal.least_cost_sides-total-requires
least_cost_sides-total-requires c =
    let t = c.args.self in
    (table-matrix t.table.sized.sizes t.cells_value, rw c.fill_weights.ensures (table-weights t.table.sized.bytes.now), t.spanned, t.shallow, c.requires.0)

pub correct_cells-requires : goal.correct_cells-requires
correct_cells-requires c =
    let t = c.args.self in
    let sides = settled-sides t.table.sized.m t.table.sized.n t.cells.now _ c.least_cost_sides-total.ensures.0 in
    (table-matrix t.table.sized.sizes t.cells_value, sides, c.requires.1)

pub returns : goal.returns
returns c =
    let least = c.least_cost_sides-total.ensures in
    rw (sym c.fill_weights.ensures) (record { least = least.0; turned = c.correct_cells.ensures; costs = least.1 })
