-- `table::new_byte` meets its contract.
-- Assumes nothing.
use mathlib.Core.Path.{sym}
use Rattle.conflicts.proofs.CorrectedTableLaws.{rewritten-header}
use Rattle.rewriting.proofs.table.new_byte.Goals as goal

pub returns-then-b-lt8 : goal.returns-then-b-lt8
returns-then-b-lt8 c = sym (rewritten-header c.args.part.now _ c.requires.2 c.args.b c.if-b-lt8.true)
