-- `masks::column_line` meets its contract.
-- Assumes nothing.
use Rattle.masks.proofs.ColumnLaws.{column-is}
use Rattle.masks.proofs.masks.column_line.Goals as goal

pub returns : goal.returns
returns c =
    let low = c.column_letters-low_a.ensures in
    let high = c.column_letters-high_a.ensures in
    λ g masks. column-is g masks c.args.c c.requires low.a high.a low.b high.b
