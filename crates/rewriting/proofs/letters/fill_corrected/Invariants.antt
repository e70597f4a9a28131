-- `letters::fill_corrected` meets its contract. The invariant: the rows passed hold their cells.
-- Assumes nothing.
use Prim.Native.Nat.{◌*◌}
use Rattle.below.proofs.FillLaws.{Filled}
use Rattle.rewriting.specs.Algorithm.Letters.{lettered_at}
use Rattle.rewriting.proofs.letters.fill_corrected.Given as goal

abbrev pub invariant-loop-i : goal.invariant-loop-i
invariant-loop-i l = Filled 16384 (lettered_at l.m l.n l.cells l.sides l.first l.second) (l.i * 128) l.corrected
