-- `letters::fill_row` meets its contract.
-- Assumes nothing.
use Rattle.std.specs.Prelude.{if◌then◌else◌}
use mathlib.Core.Path.{◌≡◌, sym, ap, ◌∙◌}
use mathlib.Core.List.{List}
use Prim.Native.Nat.{ℕ, ◌*◌}
use lib.ListN.{get_or, replicate}
use Rattle.below.specs.Below.{tab, ◌=?◌}
use Rattle.below.proofs.FillLaws.{tab-const}
use Rattle.below.proofs.SearchLaws.{=?-true, =?-false}
use Rattle.rewriting.specs.Algorithm.Letters.{lettered_in}
use Rattle.rewriting.proofs.letters.fill_row.Goals.{then-sides-i-eq1, else-sides-i-eq1}
use Rattle.below.proofs.RowLaws.{tab-ext}
use Rattle.rewriting.proofs.LetterLaws.{lettered-row, past_row}
use Rattle.rewriting.proofs.letters.fill_row.Goals as goal

pub returns-after-sides-i-eq1 : goal.returns-after-sides-i-eq1
returns-after-sides-i-eq1 c =
    let a = c.args in
    let own : c.if-sides-i-eq1.letters.now ≡ (if get_or a.sides.now a.i 0 =? 1 then a.first.now else a.second.now) =
    elim c.if-sides-i-eq1.branch [
      | then-sides-i-eq1 w ↦ rw (w.letters-is, =?-true _ _ w.if-sides-i-eq1.true)
      | else-sides-i-eq1 w ↦ rw (w.letters-is, =?-false _ _ w.if-sides-i-eq1.false)
    ] in
    c.correct_row.ensures ∙ ap (λ (letters : List ℕ). tab 128 (lettered_in a.n a.cells.now (a.i * 128) letters)) own
    ∙ tab-ext 128 _ _ (λ q l. lettered-row a.m a.n a.cells.now a.sides.now a.first.now a.second.now a.i q l c.if-i-m.true)

pub returns-else-i-m : goal.returns-else-i-m
returns-else-i-m c =
    let a = c.args in
    c.fill.ensures.after (λ y e. e) ∙ ap (λ (n : ℕ). replicate n 0) c.requires.3 ∙ sym (tab-const 128 0)
    ∙ tab-ext 128 _ _ (λ q l. past_row a.m a.n a.cells.now a.sides.now a.first.now a.second.now a.i q l c.if-i-m.false)
