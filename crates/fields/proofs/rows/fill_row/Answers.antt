use mathlib.Core.Path.{ap, ◌∙◌}
use Prim.Native.Nat.{ℕ, min}
use lib.ListN.{length}
use Rattle.fields.proofs.FieldLaws.{row-filled}
use Rattle.fields.proofs.rows.fill_row.Goals as goal

pub returns : goal.returns
returns c =
    let a = c.args in
    row-filled a.part.now a.n (length a.row.now) (c.fill.ensures.after (λ y e. e)) (c.from-s.ensures ∙ c.start.ensures)
    (c.min-k.ensures ∙ ap (λ (k : ℕ). min k 96) (c.from.ensures ∙ c.span.ensures))
    c.min.ensures
    c.min-end.ensures
    c.min-first.ensures
    c.write_cells.ensures
