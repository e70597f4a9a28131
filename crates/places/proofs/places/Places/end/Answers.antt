-- `places::Places::end` meets its contract.
-- Assumes nothing.
use borrow.Author.Rules.{rules}
use Rattle.places.proofs.ZeroLaws.{highest-high, highest-low}
use Rattle.places.proofs.places.Places.end.Goals as goal

pub returns-then-self-ne0 : goal.returns-then-self-ne0
returns-then-self-ne0 c = highest-high c.args.self (search rules) (search rules) c.if-self-ne0.true

pub returns-else-self-ne0 : goal.returns-else-self-ne0
returns-else-self-ne0 c = highest-low c.args.self (search rules) (search rules) c.if-self-ne0.false
