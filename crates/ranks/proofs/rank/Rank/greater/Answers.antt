-- `Rank::greater` meets its contract.
-- Assumes nothing.
use borrow.Author.Rules.{rules}
use mathlib.Core.Path.{ap, ◌∙◌}
use Rattle.ranks.specs.Algorithm.Reading.{value}
use Rattle.ranks.proofs.OrderLaws.{max-value}
use Rattle.ranks.proofs.rank.Rank.greater.Goals as goal

pub returns : goal.returns
returns c = ap value c.max.ensures ∙ max-value c.args.self c.args.other (search rules) (search rules) (search rules) (search rules)
