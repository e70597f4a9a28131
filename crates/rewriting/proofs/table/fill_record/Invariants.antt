-- `table::fill_record` meets its contract. The invariant: the bytes passed are the new ones.
-- Assumes nothing.
use lib.ListN.{get_or}
use Rattle.below.proofs.FillLaws.{Filled}
use Rattle.conflicts.specs.Answer.{rewritten}
use Rattle.rewriting.specs.Algorithm.Rewriting.{row_in}
use Rattle.rewriting.proofs.table.fill_record.Given as goal

abbrev pub invariant-loop-b : goal.invariant-loop-b
invariant-loop-b l = Filled 32 (λ b'. get_or (rewritten l.part (row_in l.cells l.i)) b' 0) l.b l.output
