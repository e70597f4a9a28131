-- `spans::fill_spans` meets its contract. The loop's invariant: the spans of the fragments passed are written.
use mathlib.Core.Path.{◌≡◌, sym, ap, ◌∙◌}
use Prim.Native.Nat.{ℕ}
use native.Mathlib.Decide.{ℕ_discrete}
use native.Mathlib.Omega.{arith}
use lib.ListN.{set, length-set}
use lib.Seq.{get_or-set_same, get_or-set_other}
use Rattle.matrix.specs.Algorithm.Matrix.{matrix_grid}
use Rattle.slots.specs.declared.spans.Span.{Span}
use Rattle.slots.specs.Algorithm.Spans.{span_at}
use Rattle.slots.specs.Algorithm.Columns.{first_column, end_column_of}
use Rattle.slots.proofs.spans.fill_spans.Goals as goal

pub loop-i-preserved : goal.loop-i-preserved
loop-i-preserved c =
    let l = c.loop-i in
    let a = c.args in
    let g = matrix_grid a.m a.n a.cells.now in
    let span : Span = record { start = c.start_of.result; end = c.end_of.result } in
    let size = l.invariant.0 in
    let few = c.requires.rows in (
      length-set l.spans l.i span ∙ size,
      λ f lt. elim (ℕ_discrete f l.i) [
        | yes e ↦
            let here : span_at (set l.spans l.i span) f ≡ span = ap (λ (y : ℕ). span_at (set l.spans l.i span) y) e ∙ get_or-set_same l.spans l.i span _ (omega arith) in
            (ap (λ (s : Span). s.start) here ∙ c.start_of.ensures a.m ∙ ap (first_column g) (sym e), ap (λ (s : Span). s.end) here ∙ c.end_of.ensures a.m ∙ ap (end_column_of g) (sym e))
        | no ne ↦ rw (get_or-set_other l.spans l.i f span _ ne) (l.invariant.1 f (omega arith))
      ],
    )

pub returns : goal.returns
unfolding matrix_grid
returns c =
    let l = c.loop-i in
    record { size = l.invariant.0; begins = λ f lt. (l.invariant.1 f (omega arith)).0; stops = λ f lt. (l.invariant.1 f (omega arith)).1 }
