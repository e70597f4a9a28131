-- `Rank::single` meets its contract.
-- Assumes nothing.
use Rattle.ranks.proofs.WordLaws.{high-single}
use Rattle.ranks.proofs.rank.Rank.single.Goals as goal

pub returns-then-p-lt64 : goal.returns-then-p-lt64
returns-then-p-lt64 c = high-single c.args.count c.args.p c.if-p-lt64.true
