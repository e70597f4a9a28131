-- `table::new_cells` meets its contract.
-- Assumes nothing.
use mathlib.Core.Path.{sym, ◌∙◌}
use Prim.Native.Nat.{◌-◌}
use Rattle.writing.proofs.LayoutLaws.{cell_byte_of-of}
use Rattle.conflicts.specs.Answer.{rewritten_code}
use Rattle.conflicts.proofs.CorrectedTableLaws.{rewritten-byte-at}
use Rattle.rewriting.specs.Algorithm.Rewriting.{row_in}
use Rattle.rewriting.proofs.table.new_cells.Goals as goal

pub returns : goal.returns
returns c =
    let a = c.args in
    cell_byte_of-of (rewritten_code a.part.now (row_in a.cells.now a.i)) (a.b - 8) _ _ _ _
    c.new_code-code0.ensures.0
    c.new_code-code1.ensures.0
    c.new_code-code2.ensures.0
    c.new_code-code3.ensures.0
    ∙ sym (rewritten-byte-at a.part.now (row_in a.cells.now a.i) c.requires.2 a.b c.requires.3 c.requires.4)
