-- `rows::calls_start` meets its contract. The loop's invariant: no call stands before column c.
use mathlib.Core.Path.{sym, ◌∙◌}
use native.Mathlib.Omega.{arith}
use lib.ListN.{length}
use Rattle.fields.specs.Writing.{codes_of}
use Rattle.writing.proofs.ScanLaws.{start-hit, start-miss}
use Rattle.below.proofs.SearchLaws.{none_yet, none_more}
use Rattle.records.proofs.ExtentLaws.{calls}
use Rattle.writing.proofs.rows.calls_start.Goals as goal

pub loop-c-init : goal.loop-c-init
loop-c-init c = none_yet (calls (codes_of c.args.row.now))

pub returns-then-is_call : goal.returns-then-is_call
returns-then-is_call c =
    let row = c.args.row.now in
    let l = c.loop-c in
    start-hit (length row) (codes_of row) l.c (omega arith) l.invariant (sym c.is_call.ensures ∙ c.if-is_call.true)

pub loop-c-preserved : goal.loop-c-preserved
loop-c-preserved c =
    let l = c.loop-c in
    none_more l.c (calls (codes_of c.args.row.now)) l.invariant (sym c.is_call.ensures ∙ c.if-is_call.false)

pub returns : goal.returns
returns c =
    let row = c.args.row.now in
    start-miss (length row) (codes_of row) c.loop-c.c (omega arith) c.loop-c.invariant
