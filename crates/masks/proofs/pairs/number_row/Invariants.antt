-- `pairs::number_row` meets its contract. The invariant: the pairs passed have their numbers.
-- Assumes nothing.
use Prim.Native.Nat.{◌+◌, ◌*◌}
use Rattle.masks.specs.Algorithm.Pairs.{pair_number_of, Numbered}
use Rattle.masks.proofs.pairs.number_row.Given as goal

abbrev pub invariant-loop-j : goal.invariant-loop-j
invariant-loop-j l = Numbered (pair_number_of l.masks l.keep l.frags) (l.i * 128 + l.j) l.matrix
