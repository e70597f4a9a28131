-- `programme::weight_at` meets its contract.
-- Assumes nothing.
use borrow.Author.Rules.{rules}
use mathlib.Core.Path.{◌≡◌}
use Rattle.ranks.specs.Algorithm.Reading.{value}
use Rattle.ranks.specs.Algorithm.Lent.{weights_in}
use Rattle.below.specs.Below.{nth}
use Rattle.snp_removal.specs.Algorithm.Columns.{words_follow}
use Rattle.snp_removal.specs.Algorithm.Programme.{if_follows}
use Rattle.snp_removal.proofs.StateLaws.{sum_fits, count_fits, mixed-weight}
use Rattle.snp_removal.proofs.programme.weight_at.Goals as goal

pub plus-gone-requires : goal.plus-gone-requires
plus-gone-requires c =
    sum_fits c.args.i c.args.out c.get.result c.requires.0 (search rules) (search rules) (search rules) (search rules) c.requires.2 c.get.ensures c.requires.3

pub returns : goal.returns
returns c =
    let a = c.args in
    let v = nth (weights_in a.t.now) in
    let may = words_follow a.columns.now a.j a.i in
    let is : value c.lesser_if.result ≡ if_follows may a.i v a.j =
    mixed-weight a.i a.j v _ may c.may_follow.ensures c.get.ensures c.requires.2 c.get-2.ensures c.plus-gone.ensures c.lesser_if.ensures in
    (is, count_fits may a.i a.j v c.lesser_if.result c.requires.0 (search rules) (search rules) is c.requires.3 c.requires.4)
