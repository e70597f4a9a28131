-- `least_cost_sides` meets its contract. The loop's invariant: the sides passed are written.
-- Assumes nothing.
use Prim.Native.Nat.{ℕ, ◌+◌}
use Rattle.below.proofs.FillLaws.{Filled}
use Rattle.ranks.specs.Algorithm.Weight.{digit_at}
use Rattle.ranks.specs.Algorithm.Reading.{code}
use Rattle.corrections.proofs.least_cost_sides.Given as goal

abbrev pub invariant-loop-p : goal.invariant-loop-p
invariant-loop-p l = Filled l.m (λ (q : ℕ). 1 + digit_at (code l.r) q) l.p l.sides
