-- `packing::Fragments::fill_table` meets its contract. The loop's invariant: the records of the fragments before i stand in the table, and the next row starts at cell i × n.
-- Assumes nothing.
use mathlib.Core.Path.{◌≡◌}
use Prim.Native.Nat.{◌*◌}
use Rattle.packing.proofs.PackLaws.{Laid}
use Rattle.packing.proofs.packing.Fragments.fill_table.Given as goal

abbrev pub invariant-loop-i : goal.invariant-loop-i
invariant-loop-i l = Laid l.n l.cells l.tags l.grades l.initial.table l.i l.table × (l.first ≡ l.i * l.n)
