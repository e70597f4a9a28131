-- `rows::calls_end` meets its contract. The loop's invariant: the calls of the row end where those of its first c columns end.
use mathlib.Core.Path.{◌≡◌, sym, ap, ◌∙◌}
use Prim.Native.Nat.{ℕ, ◌+◌, ◌-◌}
use native.Mathlib.Omega.{arith}
use Rattle.fields.specs.Writing.{calls_end_of, codes_of}
use Rattle.writing.proofs.ScanLaws.{end-hit, end-miss, end_none}
use Rattle.below.proofs.BelowLaws.{passes, fails}
use Rattle.writing.proofs.rows.calls_end.Goals as goal

pub returns-then-is_call : goal.returns-then-is_call
returns-then-is_call c =
    let row = c.args.row.now in
    let l = c.loop-c in
    let e : l.c - 1 + 1 ≡ l.c = omega arith in
    e ∙ sym (l.invariant ∙ end-hit (codes_of row) l.c (omega arith) (passes c.is_call.ensures c.if-is_call.true))

pub loop-c-preserved : goal.loop-c-preserved
loop-c-preserved c =
    let row = c.args.row.now in
    let l = c.loop-c in
    l.invariant ∙ end-miss (codes_of row) l.c (omega arith) (fails c.is_call.ensures c.if-is_call.false)

pub returns : goal.returns
returns c =
    let row = c.args.row.now in
    let l = c.loop-c in
    let e : l.c ≡ 0 = omega arith in
    sym (l.invariant ∙ ap (λ (n : ℕ). calls_end_of n (codes_of row)) e ∙ end_none (codes_of row))
