-- `Fragment::furthest_of` meets its contract.
-- Assumes nothing.
use Rattle.below.specs.Below.{nth}
use Rattle.fragment_pairs.proofs.PairLaws.{further, no-further}
use Rattle.fragment_pairs.proofs.fragment.Fragment.furthest_of.Goals as goal

pub returns-then-self-s : goal.returns-then-self-s
returns-then-self-s c =
    let f = c.args.self.now in further (nth f.reaches.now) c.args.s f.i c.if-self-s.true

pub returns-else-self-s : goal.returns-else-self-s
returns-else-self-s c =
    let f = c.args.self.now in no-further (nth f.reaches.now) c.args.s f.i c.if-self-s.false
