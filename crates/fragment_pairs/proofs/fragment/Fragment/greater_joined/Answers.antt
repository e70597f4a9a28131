-- `Fragment::greater_joined` meets its contract.
-- Assumes nothing.
use mathlib.Core.Path.{ap, ◌∙◌}
use Prim.Native.Nat.{max}
use Rattle.ranks.specs.Algorithm.Reading.{value}
use Rattle.fragment_pairs.proofs.PairLaws.{joined-far, joined-here, own-adds}
use Rattle.fragment_pairs.proofs.fragment.Fragment.greater_joined.Goals as goal

pub returns-then-self-l : goal.returns-then-self-l
returns-then-self-l c = c.greater.ensures ∙ ap (max (value c.args.here)) (joined-far _ _ c.if-self-l.true)

pub returns-else-self-l : goal.returns-else-self-l
returns-else-self-l c = c.plus.ensures ∙ own-adds _ _ ∙ ap (max (value c.args.here)) (joined-here _ _ c.if-self-l.false)
