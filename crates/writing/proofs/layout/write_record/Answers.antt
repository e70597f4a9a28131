-- `layout::write_record` meets its contract.
-- Assumes nothing.
use mathlib.Core.Path.{◌≡◌, ap₂}
use mathlib.Core.Logic.{inl, inr}
use Prim.Native.Nat.{◌-◌}
use native.Mathlib.Omega.{arith}
use lib.ListN.{length}
use Rattle.fields.specs.Writing.{calls_span_of, codes_of}
use Rattle.writing.proofs.LayoutLaws.{writable-narrow, not-long, not-graded, not-writable, written}
use Rattle.writing.proofs.ScanLaws.{span_fits, start-le-end}
use Rattle.below.proofs.BelowLaws.{passes, fails}
use Rattle.writing.proofs.layout.write_record.Goals as goal
use Rattle.writing.proofs.layout.write_record.Goals.{After-calls_end}

pub returns-then-record-ne-RECORD_BYTES : goal.returns-then-record-ne-RECORD_BYTES
returns-then-record-ne-RECORD_BYTES c =
    let a = c.args in
    elim c.then-record-ne-RECORD_BYTES.either [
      | inl n ↦ not-long a.tag a.grade a.row.now a.«record».now n
      | inr g ↦ not-graded a.tag a.grade a.row.now a.«record».now g.1
    ]

-- the span, from the start and the end that are read
span-is : (c : After-calls_end)
    → let row = c.args.row.now in
    c.calls_end.result - c.calls_start-start.result ≡ calls_span_of (length row) (codes_of row)
unfolding calls_span_of
span-is c = ap₂ ◌-◌ c.calls_end.ensures c.calls_start-start.ensures

pub overflow_sub-span : goal.overflow_sub-span
overflow_sub-span c =
    let row = c.args.row.now in
    let e = c.calls_end.ensures in
    let s = c.calls_start-start.ensures in
    let h = start-le-end (length row) (codes_of row) in
    omega arith

pub is_writable-requires : goal.is_writable-requires
is_writable-requires c = span-is (goal.at.is_writable-requires c).After-calls_end

pub returns-then-not-is_writable : goal.returns-then-not-is_writable
returns-then-not-is_writable c =
    let a = c.args in
    not-writable a.tag a.grade a.row.now a.«record».now (fails c.is_writable.ensures c.if-not-is_writable.true)

pub fill_record-requires : goal.fill_record-requires
fill_record-requires c =
    let row = c.args.row.now in
    let w = passes c.is_writable.ensures c.if-not-is_writable.false in
    let d = span-is (goal.at.fill_record-requires c).After-calls_end in
    let m = writable-narrow row w in
    let f = span_fits (length row) (codes_of row) _ _ c.calls_start-start.ensures d in
    record { t = w; span_in_bounds = (omega arith, omega arith, c.if-record-ne-RECORD_BYTES.false) }

pub returns : goal.returns
returns c =
    let a = c.args in
    let w = passes c.is_writable.ensures c.if-not-is_writable.false in
    written a.tag a.grade a.row.now a.«record».now _ _ _
    c.if-record-ne-RECORD_BYTES.false
    c.if-grade-gt-MAX_GRADE.false
    w
    c.calls_start-start.ensures
    (span-is (goal.at.returns c).After-calls_end)
    c.fill_record.ensures
