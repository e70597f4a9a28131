-- `grants::mark_slots` meets its contract. The loop's invariant: the slots of the fragments passed have their marks.
-- Assumes nothing.
use Rattle.slots.specs.Algorithm.Spans.{Marks}
use Rattle.slots.proofs.grants.mark_slots.Given as goal

abbrev pub invariant-loop-x : goal.invariant-loop-x
invariant-loop-x l = Marks l.x l.spans l.slots l.c l.turn l.marks
