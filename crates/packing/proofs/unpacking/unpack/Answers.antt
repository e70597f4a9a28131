use Rattle.records.proofs.OutcomeLaws.{passed_on}
use Rattle.packing.proofs.UnpackLaws.{unpack-sizes, unpack-refuses, clauses-outcome-cells-tags-grades}
use Rattle.packing.proofs.unpacking.unpack.Goals as goal

pub returns-in_err-table : goal.returns-in_err-table
returns-in_err-table c =
    rw (passed_on _ _ c.from_residual.ensures) (clauses-outcome-cells-tags-grades (unpack-refuses _ 0 _ _ _ _ _ _ (unpack-sizes _ 0 _ _ _ _ _ _ c.in_err-table.ensures)))

pub returns : goal.returns
returns c =
    let r = rw (c.in_ok-table.ensures.columns, c.in_ok-table.ensures.same) at c.unpack_sized.ensures in
    record { outcome = r.outcome; cells = r.cells; tags = r.tags; grades = r.grades }
