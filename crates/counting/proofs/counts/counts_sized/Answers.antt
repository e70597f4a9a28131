-- `counts::counts_sized` meets its contract.
-- Assumes nothing.
use mathlib.Core.Path.{◌≡◌, subst, sym, ◌∙◌}
use Prim.Native.Nat.{◌*◌}
use lib.ListN.{length}
use Rattle.fields.specs.Table.{fragments}
use Rattle.conflicts.specs.Counts.{conflict_counts_of}
use Rattle.conflicts.specs.Grid.{grid_of}
use Rattle.records.specs.Outcome.{accepted}
use Rattle.records.specs.Rules.{decide, table_rules}
use Rattle.records.specs.declared.table.SizedTable.{SizedTable}
use Rattle.below.proofs.RowLaws.{product-fits}
use Rattle.records.proofs.OutcomeLaws.{passed_on}
use Rattle.records.proofs.AcceptedLaws.{sized-m}
use Rattle.counting.proofs.CountingLaws.{counts-refuses, counts-length, counts-records, counts-accepts}
use Rattle.counting.proofs.counts.counts_sized.Goals as goal

clauses-outcome-counts : {A B : Type 0} → A × B → record { outcome : A; counts : B }
clauses-outcome-counts w = record { outcome = w.0; counts = w.1 }

pub overflow_mul-m : goal.overflow_mul-m
overflow_mul-m c = let few = sized-m c.args.table.sizes in record { fits = product-fits few few }

pub returns-then-counts-m : goal.returns-then-counts-m
returns-then-counts-m c = rw c.at.ensures (clauses-outcome-counts (counts-refuses _ _ _ 11 0 (counts-length _ _ _ c.args.table.m c.args.table.sizes c.if-counts-m.true)))

pub returns-in_err-sound : goal.returns-in_err-sound
returns-in_err-sound c =
    rw (passed_on _ _ c.from_residual.ensures)
    (clauses-outcome-counts (counts-refuses _ _ _ _ _ (counts-records _ _ _ c.args.table.m c.args.table.sizes c.if-counts-m.false ∙ c.in_err-sound.ensures)))

pub count_table-requires : goal.count_table-requires
count_table-requires c = subst (λ (s : SizedTable). length c.args.counts.now ≡ s.m * s.m) (sym c.in_ok-sound.ensures) c.if-counts-m.false

pub returns : goal.returns
returns c =
    let a = c.args in
    let kept = subst (λ (s : SizedTable). decide (table_rules s.n s.bytes.now) (accepted (fragments s.bytes.now)) ≡ accepted s.m) c.in_ok-sound.ensures c.in_ok-sound.field-0.records in
    let counted = subst (λ (s : SizedTable). c.count_table.new.counts ≡ conflict_counts_of (grid_of s.n s.bytes.now)) c.in_ok-sound.ensures c.count_table.ensures in
    clauses-outcome-counts (counts-accepts a.table.n a.table.bytes.now a.counts.now a.table.m a.table.sizes _ c.if-counts-m.false kept counted)
