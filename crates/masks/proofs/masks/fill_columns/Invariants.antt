-- `masks::fill_columns` meets its contract. The invariant: the lines passed are the columns'.
-- Assumes nothing.
use Rattle.conflicts.specs.Grid.{Grid}
use Rattle.masks.specs.Algorithm.Masks.{transposed, Masks, WordsBegun}
use Rattle.masks.proofs.masks.fill_columns.Given as goal

abbrev pub invariant-loop-c : goal.invariant-loop-c
invariant-loop-c l = (g : Grid) → Masks g l.masks → WordsBegun (transposed g) l.c l.columns
