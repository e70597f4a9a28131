-- `spans::start_of` meets its contract. The loop's invariant: no column passed is called.
-- Assumes nothing.
use Prim.Native.Nat.{ℕ, ◌+◌, ◌*◌}
use lib.ListN.{get_or}
use Rattle.fields.specs.Record.{is_call_code}
use Rattle.below.proofs.SearchLaws.{NoneBelow}
use Rattle.slots.proofs.spans.start_of.Given as goal

abbrev pub invariant-loop-c : goal.invariant-loop-c
invariant-loop-c l = NoneBelow l.c (λ (k : ℕ). is_call_code (get_or l.cells (l.i * 128 + k) 0))
