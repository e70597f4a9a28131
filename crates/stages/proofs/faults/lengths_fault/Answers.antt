-- `stages::lengths_fault` meets its contract.
-- Assumes nothing.
use mathlib.Core.Path.{sym}
use native.Mathlib.Omega.{arith}
use Rattle.conflicts.specs.Answer.{answer_size}
use Rattle.records.proofs.AcceptedLaws.{sized-n, sized-m}
use Rattle.stages.proofs.StageLaws.{lent-work, lent_length, lent-kept}
use Rattle.stages.proofs.faults.lengths_fault.Goals as goal

pub returns-then-work-lt32768 : goal.returns-then-work-lt32768
returns-then-work-lt32768 c = rw c.at.ensures (sym (lent-work _ _ _ _ c.args.table.m c.args.table.sizes _ c.if-work-lt32768.true))

pub overflow_mul-table : goal.overflow_mul-table
overflow_mul-table c = let a = sized-n c.args.table.sizes in omega arith

pub overflow_mul-table-2 : goal.overflow_mul-table-2
overflow_mul-table-2 c = let a = sized-m c.args.table.sizes in omega arith

pub overflow_add-table : goal.overflow_add-table
overflow_add-table c = let a = sized-n c.args.table.sizes in let b = sized-m c.args.table.sizes in omega arith

pub returns-then-answer-table : goal.returns-then-answer-table
unfolding answer_size
returns-then-answer-table c = rw c.at-then-answer-table.ensures (sym (lent_length _ _ _ _ c.args.table.m c.args.table.sizes _ c.if-work-lt32768.false c.if-answer-table.true))

pub returns : goal.returns
unfolding answer_size
returns c = sym (lent-kept _ _ _ _ c.args.table.m c.args.table.sizes c.if-work-lt32768.false c.if-answer-table.false)
