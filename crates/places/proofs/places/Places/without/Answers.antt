-- `places::Places::without` meets its contract.
-- Assumes nothing.
use borrow.Author.Rules.{rules}
use mathlib.Core.Path.{ap₂}
use Rattle.places.specs.Algorithm.Places.{without_of}
use Rattle.places.proofs.PlaceLaws.{places}
use Rattle.places.proofs.WordLaws.{and-not-word}
use Rattle.places.proofs.places.Places.without.Goals as goal

pub returns : goal.returns
unfolding without_of
returns c =
    let x = c.args.self in
    let y = c.args.other in
    ap₂ places (and-not-word x.low y.low (search rules) (search rules)) (and-not-word x.high y.high (search rules) (search rules))
