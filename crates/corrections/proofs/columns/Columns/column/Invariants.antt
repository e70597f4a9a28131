-- `columns::Columns::column` meets its contract. The loop's invariant: the table holds the least weights from the events of fragment f at the column on.
-- Assumes nothing.
use Prim.Native.Nat.{◌+◌, ◌-◌}
use Rattle.below.specs.Below.{nth}
use Rattle.ranks.specs.Algorithm.Lent.{weights_in}
use Rattle.events.specs.Algorithm.Events.{part_of}
use Rattle.slots.specs.Algorithm.Columns.{first_column}
use Rattle.corrections.specs.Algorithm.Sweep.{HoldsAll}
use Rattle.corrections.specs.Algorithm.Elimination.{grid_in}
use Rattle.corrections.proofs.columns.Columns.column.Given as goal

abbrev pub invariant-loop-f : goal.invariant-loop-f
invariant-loop-f l = HoldsAll (grid_in l.self) l.self.slots.now (part_of (first_column (grid_in l.self)) l.self.m l.c l.f (l.self.m - l.f) (l.self.n - (l.c + 1))) (nth (weights_in l.t))
