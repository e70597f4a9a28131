use Prim.Native.Nat.{ℕ, ◌*◌}
use mathlib.Core.Path.{◌≡◌, sym, ap, subst, ◌∙◌}
use Rattle.fields.specs.Table.{fragments}
use Rattle.records.specs.Outcome.{accepted}
use Rattle.records.specs.Rules.{decide, table_rules}
use Rattle.records.specs.declared.table.SizedTable.{SizedTable}
use Rattle.conflicts.specs.Services.{unpack_leaves}
use Rattle.records.proofs.AcceptedLaws.{sized-count, sized-n, sized-m}
use Rattle.records.proofs.OutcomeLaws.{passed_on}
use Rattle.below.proofs.RowLaws.{product-fits}
use Rattle.packing.proofs.UnpackLaws.{unpack-cells, unpack-tags, unpack-grades, unpack-records, unpack-refuses, unpack-accepts, clauses-outcome-cells-tags-grades}
use Rattle.packing.proofs.unpacking.unpack_sized.Goals as goal
use Rattle.packing.proofs.unpacking.unpack_sized.Goals.{Else-grades-m, then-cells-m-via-then-cells-m, then-cells-m-via-else-cells-m+then-tags-m, then-cells-m-via-else-cells-m+else-tags-m+then-grades-m}

pub overflow_mul-m : goal.overflow_mul-m
overflow_mul-m c =
    record { fits = product-fits (sized-n c.args.table.sizes) (sized-m c.args.table.sizes) }

pub returns-then-cells-m : goal.returns-then-cells-m
returns-then-cells-m c =
    let a = c.args in
    rw c.at.ensures
    (clauses-outcome-cells-tags-grades (unpack-refuses a.table.n a.table.m a.table.bytes.now a.cells.now a.tags.now a.grades.now 11 0 (elim c.then-cells-m.branch [
      | then-cells-m-via-then-cells-m w ↦ unpack-cells _ _ _ _ _ _ c.args.table.sizes w.if-cells-m.true
      | then-cells-m-via-else-cells-m+then-tags-m w ↦ unpack-tags _ _ _ _ _ _ c.args.table.sizes w.if-cells-m.false w.if-tags-m.true
      | then-cells-m-via-else-cells-m+else-tags-m+then-grades-m w ↦ unpack-grades _ _ _ _ _ _ c.args.table.sizes w.if-cells-m.false w.if-tags-m.false w.if-grades-m.true
    ])))

pub fill-requires : goal.fill-requires
fill-requires c =
    let m = sym (sized-count c.args.table.sizes) in
    record { cells_len = c.if-cells-m.false ∙ ap (λ (k : ℕ). k * c.args.table.n) m; tags_len = c.if-tags-m.false ∙ m; grades_len = c.if-grades-m.false ∙ m }

-- the records decide once the lengths are kept
rest-decides : (c : Else-grades-m)
    → let a = c.args in
    (unpack_leaves a.table.n a.table.bytes.now a.cells.now a.tags.now a.grades.now).outcome ≡ decide (table_rules a.table.n a.table.bytes.now) (accepted (fragments a.table.bytes.now))
rest-decides c =
    unpack-records _ _ _ _ _ _ c.args.table.sizes c.if-cells-m.false c.if-tags-m.false c.if-grades-m.false

pub returns-in_err-sound : goal.returns-in_err-sound
returns-in_err-sound c =
    rw (passed_on _ _ c.from_residual.ensures)
    (clauses-outcome-cells-tags-grades (unpack-refuses _ c.args.table.m _ _ _ _ _ _ (rest-decides (goal.at.returns-in_err-sound c).Else-grades-m ∙ c.in_err-sound.ensures)))

pub returns : goal.returns
returns c =
    let kept = subst (λ (s : SizedTable). decide (table_rules s.n s.bytes.now) (accepted (fragments s.bytes.now)) ≡ accepted s.m) c.in_ok-sound.ensures c.in_ok-sound.field-0.records in
    let left = unpack-accepts _ c.args.table.m _ _ _ _ _ (sized-count c.args.table.sizes) (rest-decides (goal.at.returns c).Else-grades-m) kept in
    record { outcome = left.0; cells = c.fill.ensures.cells ∙ left.1.0; tags = c.fill.ensures.tags ∙ left.1.1.0; grades = c.fill.ensures.grades ∙ left.1.1.1 }
