-- `Rank::digit` meets its contract, by the laws of the two words' digits.
-- Assumes nothing.
use borrow.Author.Rules.{rules}
use Rattle.ranks.proofs.WordLaws.{high_digit, low_digit}
use Rattle.ranks.proofs.rank.Rank.digit.Goals as goal

pub returns-then-p-lt64 : goal.returns-then-p-lt64
returns-then-p-lt64 c =
    let a = c.args in
    high_digit a.self.high a.self.low a.p (search rules) c.if-p-lt64.true

pub returns-else-p-lt64 : goal.returns-else-p-lt64
returns-else-p-lt64 c =
    let a = c.args in
    low_digit a.self.high a.self.low a.p c.if-p-lt64.false c.requires
