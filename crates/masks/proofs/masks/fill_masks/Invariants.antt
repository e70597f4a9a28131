-- `masks::fill_masks` meets its contract. The invariant: the lines passed are the fragments'.
-- Assumes nothing.
use Prim.Native.Nat.{ℕ}
use Rattle.conflicts.specs.Grid.{grid_of}
use Rattle.masks.specs.Algorithm.Masks.{LetteredTable, WordsBegun}
use Rattle.masks.proofs.masks.fill_masks.Given as goal

abbrev pub invariant-loop-i : goal.invariant-loop-i
invariant-loop-i l = (n : ℕ) → LetteredTable n l.table → WordsBegun (grid_of n l.table) l.i l.masks
