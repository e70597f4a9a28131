-- `pairs::fill_pairs` meets its contract. The invariant: the rows passed have their numbers.
-- Assumes nothing.
use Prim.Native.Nat.{◌*◌}
use Rattle.masks.specs.Algorithm.Pairs.{pair_number_of, Numbered}
use Rattle.masks.proofs.pairs.fill_pairs.Given as goal

abbrev pub invariant-loop-i : goal.invariant-loop-i
invariant-loop-i l = Numbered (pair_number_of l.masks l.keep l.frags) (l.i * 128) l.matrix
