-- `programme::last_behind` meets its contract. The loop's invariant: no state up to s reaches past the start.
-- Assumes nothing.
use Rattle.fragment_removal.specs.Algorithm.Holding.{Behind}
use Rattle.fragment_removal.proofs.programme.last_behind.Given as goal

abbrev pub invariant-loop-s : goal.invariant-loop-s
invariant-loop-s l = Behind l.reaches l.start l.s
