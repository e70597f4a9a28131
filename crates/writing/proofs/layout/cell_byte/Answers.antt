-- `layout::cell_byte` meets its contract.
-- Assumes nothing.
use Rattle.fields.specs.Writing.{codes_of}
use Rattle.writing.proofs.LayoutLaws.{cell_byte_of-of}
use Rattle.writing.proofs.layout.cell_byte.Goals as goal

pub returns : goal.returns
returns c =
    let a = c.args in
    cell_byte_of-of (codes_of a.calls.now) a.b _ _ _ _
    c.byte-first.ensures
    c.byte-second.ensures
    c.byte-third.ensures
    c.byte-last.ensures
