-- `columns::Columns::gather` meets its contract. The loop's invariant: the prices of the fragments passed are in their slots.
-- Assumes nothing.
use Rattle.corrections.specs.Algorithm.Sweep.{Gathered}
use Rattle.corrections.specs.Algorithm.Elimination.{grid_in}
use Rattle.corrections.proofs.columns.Columns.gather.Given as goal

abbrev pub invariant-loop-i : goal.invariant-loop-i
invariant-loop-i l = Gathered (grid_in l.self) l.self.slots.now l.c 1 l.i l.a × Gathered (grid_in l.self) l.self.slots.now l.c 2 l.i l.b
