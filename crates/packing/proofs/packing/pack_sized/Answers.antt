-- `packing::pack_sized` meets its contract.
-- Assumes nothing.
use mathlib.Core.Path.{sym, ◌∙◌}
use native.Mathlib.Omega.{arith}
use Rattle.records.proofs.OutcomeLaws.{passed_on}
use Rattle.records.proofs.RuleLaws.{decide-accepted}
use Rattle.packing.proofs.PackLaws.{pack-length, pack-fragments, pack-refuses, pack-accepts, clauses-outcome-table}
use Rattle.packing.proofs.SizeLaws.{pack-m}
use Rattle.packing.proofs.packing.pack_sized.Goals as goal

pub overflow_mul-fragments : goal.overflow_mul-fragments
overflow_mul-fragments c =
    let h = pack-m c.args.fragments.sized in omega arith

pub returns-then-table-fragments : goal.returns-then-table-fragments
returns-then-table-fragments c =
    rw c.at.ensures (clauses-outcome-table (pack-refuses _ _ _ _ _ 11 0 (pack-length _ _ _ _ _ c.args.fragments.sized c.if-table-fragments.true)))

pub returns-in_err-m : goal.returns-in_err-m
returns-in_err-m c =
    rw (passed_on _ _ c.from_residual.ensures) (clauses-outcome-table (pack-refuses _ _ _ _ _ _ _ (pack-fragments _ _ _ _ _ c.args.fragments.sized c.if-table-fragments.false ∙ sym c.in_err-m.ensures)))

pub fill_table-requires : goal.fill_table-requires
fill_table-requires c =
    record { fragments_kept = record { kept = decide-accepted _ _ _ _ (sym c.in_ok-m.ensures) }; table_len = c.if-table-fragments.false }

pub returns : goal.returns
returns c =
    let r = pack-accepts _ _ _ _ _ _ (pack-fragments _ _ _ _ _ c.args.fragments.sized c.if-table-fragments.false ∙ sym c.in_ok-m.ensures) in
    record { outcome = r.0; table = c.fill_table.ensures ∙ r.1 }
