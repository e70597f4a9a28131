-- `rows::calls_span` meets its contract.
-- Assumes nothing.
use mathlib.Core.Path.{ap₂}
use Prim.Native.Nat.{ℕ, ◌-◌}
use native.Mathlib.Omega.{arith}
use lib.ListN.{length}
use Rattle.fields.specs.Writing.{calls_span_of, codes_of}
use Rattle.writing.proofs.ScanLaws.{start-le-end}
use Rattle.writing.proofs.rows.calls_span.Goals as goal

pub overflow_sub-result : goal.overflow_sub-result
overflow_sub-result c =
    let row = c.args.row.now in
    let e = c.calls_end.ensures in
    let s = c.calls_start.ensures in
    let h = start-le-end (length row) (codes_of row) in
    omega arith

pub returns : goal.returns
unfolding calls_span_of
returns c = ap₂ (λ (e s : ℕ). e - s) c.calls_end.ensures c.calls_start.ensures
