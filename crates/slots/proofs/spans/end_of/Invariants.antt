-- `spans::end_of` meets its contract. The loop's invariant: the columns from its counter on are not called.
-- Assumes nothing.
use mathlib.Core.Path.{◌≡◌}
use Prim.Native.Nat.{ℕ, ◌+◌, ◌*◌}
use lib.ListN.{get_or}
use Rattle.fields.specs.Writing.{calls_end_of}
use Rattle.slots.proofs.spans.end_of.Given as goal

abbrev pub invariant-loop-c : goal.invariant-loop-c
invariant-loop-c l = calls_end_of l.n (λ (k : ℕ). get_or l.cells (l.i * 128 + k) 0) ≡ calls_end_of l.c (λ (k : ℕ). get_or l.cells (l.i * 128 + k) 0)
