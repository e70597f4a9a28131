-- `grants::first_unmarked` meets its contract. The loop's invariant: every slot passed has a mark.
-- Assumes nothing.
use mathlib.Core.Bool.{false}
use Prim.Native.Nat.{ℕ}
use lib.ListN.{get_or}
use Rattle.below.specs.Below.{isnt}
use Rattle.below.proofs.SearchLaws.{NoneBelow}
use Rattle.slots.proofs.grants.first_unmarked.Given as goal

abbrev pub invariant-loop-b : goal.invariant-loop-b
invariant-loop-b l = NoneBelow l.b (λ (x : ℕ). isnt (get_or l.marks x false))
