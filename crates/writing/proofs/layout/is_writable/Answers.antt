-- `layout::is_writable` meets its contract.
-- Assumes nothing.
use mathlib.Core.Path.{◌≡◌, refl, sym, ap, ◌∙◌}
use mathlib.Core.Bool.{Bool, true, false, not}
use native.Mathlib.Omega.{arith}
use lib.ListN.{length}
use Rattle.below.specs.Below.{◌≤?◌}
use Rattle.fields.specs.Writing.{codes_of}
use Rattle.writing.proofs.LayoutLaws.{wide-refused, unknown-refused, writable-by-span}
use Rattle.below.proofs.BelowLaws.{passes, fails, ≤?-le}
use Rattle.writing.proofs.layout.is_writable.Goals as goal
use Rattle.writing.proofs.layout.is_writable.Goals.{then-row-le128, else-row-le128}

un-not : (b x : Bool) → not b ≡ x → b ≡ not x
un-not true x e = ap not e
un-not false x e = ap not e

pub returns-then-not-any_unknown : goal.returns-then-not-any_unknown
unfolding ◌≤?◌
returns-then-not-any_unknown c =
    let row = c.args.row.now in
    elim c.if-row-le128.branch [
      | then-row-le128 w ↦ writable-by-span (length row) (codes_of row) _ w.if-row-le128.true (fails w.any_unknown.ensures (un-not _ _ (sym w.value-is ∙ c.if-not-any_unknown.true))) c.requires
      | else-row-le128 w ↦ let h = ≤?-le (length row) 128 (passes refl (sym w.value-is ∙ c.if-not-any_unknown.true)) in let l = w.if-row-le128.false in absurd (omega arith)
    ]

pub returns-else-not-any_unknown : goal.returns-else-not-any_unknown
returns-else-not-any_unknown c =
    let row = c.args.row.now in
    elim c.if-row-le128.branch [
      | then-row-le128 w ↦ c.if-not-any_unknown.false ∙ unknown-refused (length row) (codes_of row) (passes w.any_unknown.ensures (un-not _ _ (sym w.value-is ∙ c.if-not-any_unknown.false)))
      | else-row-le128 w ↦ c.if-not-any_unknown.false ∙ wide-refused (length row) (codes_of row) w.if-row-le128.false
    ]
