-- `quick_find::new_label` meets its contract.
-- Assumes nothing.
use mathlib.Core.Path.{sym}
use Rattle.below.proofs.TestLaws.{if-eq, if-ne}
use Rattle.components.proofs.quick_find.new_label.Goals as goal

pub returns-then-x-hi : goal.returns-then-x-hi
returns-then-x-hi c = sym (if-eq _ _ c.if-x-hi.true)

pub returns-else-x-hi : goal.returns-else-x-hi
returns-else-x-hi c = sym (if-ne _ _ c.if-x-hi.false)
