-- `places::Places::lowest` meets its contract.
-- Assumes nothing.
use borrow.Author.Rules.{rules}
use native.Mathlib.Nat.{le_refl, add-le-add, lt_of_le_of_lt}
use lib.Dec.{lit<}
use lib.Count.{trailing_le}
use Rattle.places.proofs.ZeroLaws.{lowest-low, lowest-high}
use Rattle.places.proofs.places.Places.lowest.Goals as goal

pub returns-then-self-ne0 : goal.returns-then-self-ne0
returns-then-self-ne0 c = lowest-low c.args.self (search rules) (search rules) c.if-self-ne0.true

pub overflow_add-result : goal.overflow_add-result
overflow_add-result c = record { fits = lt_of_le_of_lt (add-le-add (le_refl _) (trailing_le 64 _)) (lit< tt) }

pub returns-else-self-ne0 : goal.returns-else-self-ne0
returns-else-self-ne0 c = lowest-high c.args.self (search rules) (search rules) c.if-self-ne0.false
