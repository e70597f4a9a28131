-- `snps::least_snp_removal` meets its contract.
-- Assumes nothing.
use mathlib.Core.Path.{◌≡◌, sym}
use lib.ListN.{length, replicate}
use borrow.Author.Rules.{rules}
use Rattle.records.proofs.OutcomeLaws.{passed_on}
use Rattle.stages.proofs.StageLaws.{removal-sized, removal-answer, gapless-accepted}
use Rattle.removals.proofs.RemovalLaws.{removal-refuses, removal-accepts, clauses-outcome-work-answer-meaning}
use Rattle.removals.proofs.TableRemovalLaws.{snp-leaves}
use Rattle.removals.proofs.snps.least_snp_removal.Goals as goal

pub returns-in_err-m : goal.returns-in_err-m
returns-in_err-m c =
    rw (passed_on _ _ c.from_residual.ensures) (clauses-outcome-work-answer-meaning (snp-leaves _ _ _ _ (removal-refuses _ _ _ _ _ _ _ _ (sym c.in_err-m.ensures))))

pub invariant_of-sized : goal.invariant_of-sized
invariant_of-sized c = record { sizes = removal-sized _ _ _ _ _ (sym c.in_ok-m.ensures) }

pub invariant_of-table : goal.invariant_of-table
invariant_of-table c = record { records = gapless-accepted _ _ _ _ _ (sym c.in_ok-m.ensures) }

pub remove_snps-count-requires : goal.remove_snps-count-requires
remove_snps-count-requires c = removal-answer _ _ _ _ _ (sym c.in_ok-m.ensures)

pub returns : goal.returns
returns c =
    let removed = c.remove_snps-count.ensures in
    let zero : c.fill.new.self ≡ replicate (length c.args.work.now) 0 = search rules in
    clauses-outcome-work-answer-meaning (snp-leaves _ _ _ _ (removal-accepts _ _ _ _ _ _ _ (sym c.in_ok-m.ensures) removed.count zero removed.answer))
