-- `spans::end_of` meets its contract. The loop's invariant: the columns from its counter on are not called.
use mathlib.Core.Path.{◌≡◌, sym, ap, ◌∙◌}
use Prim.Native.Nat.{ℕ, ◌+◌, ◌*◌, ◌-◌}
use native.Mathlib.Omega.{arith}
use lib.ListN.{get_or}
use Rattle.fields.specs.Writing.{calls_end_of}
use Rattle.below.proofs.BelowLaws.{passes, fails}
use Rattle.writing.proofs.ScanLaws.{end-hit, end-miss, end_none}
use Rattle.matrix.specs.Algorithm.Matrix.{matrix_grid}
use Rattle.slots.specs.Algorithm.Columns.{end_column_of}
use Rattle.slots.proofs.spans.end_of.Goals as goal

pub returns-then-call_at : goal.returns-then-call_at
unfolding end_column_of matrix_grid
returns-then-call_at c m =
    let l = c.loop-c in
    let a = c.args in
    let e : l.c - 1 + 1 ≡ l.c = omega arith in
    e ∙ sym (l.invariant ∙ end-hit (λ (k : ℕ). get_or a.cells.now (a.i * 128 + k) 0) l.c (omega arith) (passes c.call_at.ensures c.if-call_at.true))

pub loop-c-preserved : goal.loop-c-preserved
loop-c-preserved c =
    let l = c.loop-c in
    let a = c.args in
    l.invariant ∙ end-miss (λ (k : ℕ). get_or a.cells.now (a.i * 128 + k) 0) l.c (omega arith) (fails c.call_at.ensures c.if-call_at.false)

pub returns : goal.returns
unfolding end_column_of matrix_grid
returns c m =
    let l = c.loop-c in
    let a = c.args in
    let e : l.c ≡ 0 = omega arith in
    sym (l.invariant ∙ ap (λ (k : ℕ). calls_end_of k (λ (k : ℕ). get_or a.cells.now (a.i * 128 + k) 0)) e ∙ end_none (λ (k : ℕ). get_or a.cells.now (a.i * 128 + k) 0))
