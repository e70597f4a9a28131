-- `packing::pack` meets its contract.
-- Assumes nothing.
use mathlib.Core.Path.{sym}
use Rattle.records.proofs.OutcomeLaws.{passed_on}
use Rattle.records.proofs.RuleLaws.{decide-accepted}
use Rattle.packing.proofs.PackLaws.{pack-sizes, pack-refuses, clauses-outcome-table}
use Rattle.packing.proofs.packing.pack.Goals as goal

pub returns-in_err-pack_size_fault : goal.returns-in_err-pack_size_fault
returns-in_err-pack_size_fault c =
    rw (passed_on _ _ c.from_residual.ensures) (clauses-outcome-table (pack-refuses _ _ _ _ _ _ _ (pack-sizes _ _ _ _ _ _ _ (sym c.in_err-pack_size_fault.ensures))))

pub invariant_of-fragments : goal.invariant_of-fragments
invariant_of-fragments c = record { sized = record { kept = decide-accepted _ _ _ _ (sym c.in_ok-pack_size_fault.ensures) } }
