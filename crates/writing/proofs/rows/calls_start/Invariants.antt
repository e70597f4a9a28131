-- `rows::calls_start` meets its contract. The loop's invariant: no call stands before column c.
-- Assumes nothing.
use Rattle.fields.specs.Writing.{codes_of}
use Rattle.below.proofs.SearchLaws.{NoneBelow}
use Rattle.records.proofs.ExtentLaws.{calls}
use Rattle.writing.proofs.rows.calls_start.Given as goal

abbrev pub invariant-loop-c : goal.invariant-loop-c
invariant-loop-c l = NoneBelow l.c (calls (codes_of l.row))
