-- `lines::columns_conflict` meets its contract.
-- Assumes nothing.
use mathlib.Core.Path.{sym, ap, ◌∙◌}
use Rattle.below.proofs.TestLaws.{and-true, and-false}
use Rattle.places.specs.Algorithm.Places.{occupied, both_kinds}
use Rattle.places.proofs.lines.columns_conflict.Goals as goal

pub returns-then-any : goal.returns-then-any
unfolding both_kinds
returns-then-any c = c.any-then-any.ensures ∙ ap occupied c.conflicts.ensures ∙ and-true _ (sym (c.any.ensures ∙ ap occupied c.agreements.ensures) ∙ c.if-any.true)

pub returns-else-any : goal.returns-else-any
unfolding both_kinds
returns-else-any c = c.if-any.false ∙ and-false _ (sym (c.any.ensures ∙ ap occupied c.agreements.ensures) ∙ c.if-any.false)
