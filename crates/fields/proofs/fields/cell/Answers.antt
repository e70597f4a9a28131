use mathlib.Core.Path.{sym}
use Rattle.fields.proofs.ByteLaws.{cell-past}
use Rattle.fields.proofs.FieldLaws.{cell-shifted}
use Rattle.fields.proofs.fields.cell.Goals as goal

pub returns-then-i-lt-CELLS : goal.returns-then-i-lt-CELLS
returns-then-i-lt-CELLS c = cell-shifted c.args.part.now c.args.i _ c.if-i-lt-CELLS.true c.byte.ensures

pub returns-else-i-lt-CELLS : goal.returns-else-i-lt-CELLS
returns-else-i-lt-CELLS c = sym (cell-past c.args.part.now c.args.i c.if-i-lt-CELLS.false)
