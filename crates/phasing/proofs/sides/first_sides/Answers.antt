-- `sides::first_sides` meets its contract.
-- Assumes nothing.
use borrow.Author.Rules.{rules}
use lib.ListN.{length}
use Rattle.phasing.proofs.SideLaws.{found}
use Rattle.phasing.proofs.sides.first_sides.Goals as goal

pub returns : goal.returns
returns c =
    let f = c.args.fragments in
    let r = c.requires in
    let left = c.components in
    λ g cols means e.
    found g cols f.frags.now f.masks.now f.keep means e _ _ (let s = r.sided in search rules) (let s = r.labelled in search rules) (length f.frags.now) e left.result left.ensures
