-- `fragments::Fragments::least` meets its contract. The loop's invariant: the marks below p are written.
-- Assumes nothing.
use Prim.Native.Nat.{ℕ}
use Rattle.below.proofs.FillLaws.{Filled}
use Rattle.ranks.specs.Algorithm.Weight.{digit_at}
use Rattle.ranks.specs.Algorithm.Reading.{code}
use Rattle.fragment_removal.proofs.fragments.Fragments.least.Given as goal

abbrev pub invariant-loop-p : goal.invariant-loop-p
invariant-loop-p l = Filled l.self.m (λ (q : ℕ). digit_at (code l.most) q) l.p l.keep
