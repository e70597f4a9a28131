-- `answer::copy` meets its contract. The invariant: the bytes passed are copied.
-- Assumes nothing.
use lib.ListN.{length, get_or}
use Rattle.below.proofs.FillLaws.{Filled}
use Rattle.phasing.proofs.answer.copy.Given as goal

abbrev pub invariant-loop-i : goal.invariant-loop-i
invariant-loop-i l = Filled (length l.initial.to) (λ k. get_or l.from k 0) l.i l.to
