-- `rows::calls_end` meets its contract. The loop's invariant: the calls of the row end where those of its first c columns end.
-- Assumes nothing.
use mathlib.Core.Path.{◌≡◌}
use lib.ListN.{length}
use Rattle.fields.specs.Writing.{calls_end_of, codes_of}
use Rattle.writing.proofs.rows.calls_end.Given as goal

abbrev pub invariant-loop-c : goal.invariant-loop-c
invariant-loop-c l = calls_end_of (length l.row) (codes_of l.row) ≡ calls_end_of l.c (codes_of l.row)
