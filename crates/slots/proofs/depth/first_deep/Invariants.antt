-- `depth::first_deep` meets its contract. The loop's invariant: no column passed is covered by more than 8 fragments.
-- Assumes nothing.
use mathlib.Core.Bool.{Bool}
use mathlib.Core.List.{List}
use Prim.Native.Nat.{ℕ}
use Rattle.below.specs.Below.{◌<?◌}
use Rattle.below.proofs.SearchLaws.{NoneBelow}
use Rattle.slots.specs.declared.spans.Span.{Span}
use Rattle.slots.specs.Algorithm.Spans.{covered_by}
use Rattle.slots.proofs.depth.first_deep.Given as goal

abbrev pub deep_at : ℕ → List Span → ℕ → Bool
deep_at m spans c = 8 <? covered_by m spans c

abbrev pub invariant-loop-c : goal.invariant-loop-c
invariant-loop-c l = NoneBelow l.c (deep_at l.m l.spans)
