-- `snp_keep_marks` meets its contract. The loop's invariant: the marks below p are written.
-- Assumes nothing.
use Prim.Native.Nat.{ℕ, ◌-◌}
use Rattle.below.proofs.FillLaws.{Filled}
use Rattle.ranks.specs.Algorithm.Weight.{digit_at}
use Rattle.ranks.specs.Algorithm.Reading.{code}
use Rattle.snp_removal.proofs.snp_keep_marks.Given as goal

abbrev pub invariant-loop-p : goal.invariant-loop-p
invariant-loop-p l = Filled l.n (λ (q : ℕ). 1 - digit_at (code l.least) q) l.p l.keep
