-- `columns::may_follow` meets its contract.
-- Assumes nothing.
use Rattle.std.proofs.lemmas.Bool.{eq-eqb}
use mathlib.Core.Path.{◌∙◌}
use Rattle.snp_removal.proofs.PairLaws.{follows-none, follows-last}
use Rattle.snp_removal.proofs.columns.may_follow.Goals as goal

pub returns-then-j-eq0 : goal.returns-then-j-eq0
returns-then-j-eq0 c = eq-eqb _ _ c.if-j-eq0.true ∙ follows-none _ _ _ c.if-j-eq0.true

pub returns-else-j-eq0 : goal.returns-else-j-eq0
returns-else-j-eq0 c = follows-last _ _ _ _ c.if-j-eq0.false c.columns_conflict.ensures
