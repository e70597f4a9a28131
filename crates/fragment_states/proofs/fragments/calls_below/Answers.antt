-- `fragments::calls_below` meets its contract.
-- Assumes nothing.
use borrow.Author.Rules.{rules}
use Rattle.fragment_states.proofs.ReadLaws.{calls_are}
use Rattle.fragment_states.proofs.fragments.calls_below.Goals as goal

pub returns : goal.returns
returns c = let a = c.args in calls_are a.n a.line (search rules) c.first.ensures c.either.ensures c.both.ensures
