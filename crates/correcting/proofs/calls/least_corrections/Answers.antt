-- `calls::least_corrections` meets its contract.
-- Assumes nothing.
use mathlib.Core.Path.{sym}
use native.Mathlib.Omega.{arith}
use Rattle.records.proofs.OutcomeLaws.{passed_on}
use Rattle.stages.proofs.StageLaws.{correction-sized}
use Rattle.correcting.proofs.TableCorrectionLaws.{correction-refuses, correction-means, sound-accepted}
use Rattle.correcting.proofs.calls.least_corrections.Goals as goal

pub returns-in_err-m : goal.returns-in_err-m
returns-in_err-m c =
    let left = correction-refuses _ _ _ _ _ _ _ (sym c.in_err-m.ensures) in
    rw (passed_on _ _ c.from_residual.ensures)
    (record { outcome = left.outcome; work = left.work; answer = left.answer; corrected = left.corrected; meaning = correction-means _ _ _ _ _ (λ j h. omega (arith, c.type_inv.table j)) left })

pub invariant_of-sized : goal.invariant_of-sized
invariant_of-sized c = record { sizes = correction-sized _ _ _ _ _ _ (sym c.in_ok-m.ensures) }

pub invariant_of-table : goal.invariant_of-table
invariant_of-table c = record { records = sound-accepted _ _ _ _ _ (record { kept = sym c.in_ok-m.ensures }) }

pub correct_kept-requires : goal.correct_kept-requires
correct_kept-requires c = record { kept = sym c.in_ok-m.ensures }

pub returns : goal.returns
returns c =
    let left = c.correct_kept.ensures in
    record { outcome = left.outcome; work = left.work; answer = left.answer; corrected = left.corrected; meaning = correction-means _ _ _ _ _ (λ j h. omega (arith, c.type_inv.table j)) left }
