-- `letters::add_row` meets its contract. The invariant: the columns passed have their new totals, the others their old ones.
use mathlib.Core.Path.{◌∙◌}
use native.Mathlib.Omega.{arith}
use Rattle.below.proofs.FillLaws.{filled-all}
use Rattle.below.proofs.SearchLaws.{=?-true, =?-false}
use Rattle.rewriting.proofs.LetterLaws.{if_yes, if_no, adding-more, row-total}
use Rattle.rewriting.proofs.letters.add_row.Goals.{then-cells-at, else-cells-at}
use Rattle.rewriting.proofs.letters.add_row.Goals as goal

pub loop-c-preserved : goal.loop-c-preserved
loop-c-preserved c =
    let l = c.loop-c in
    let a = c.args in
    adding-more _ _ l.c l.totals _ l.invariant c.loop-c-test.true (row-total a.cells.now a.at a.weight a.letter a.totals.now l.c _ _ (l.invariant.rest l.c (omega arith))
    (elim c.if-cells-at.branch [
      | then-cells-at w ↦ w.totals-is ∙ w.from.ensures ∙ if_yes _ _ (=?-true _ _ w.if-cells-at.true)
      | else-cells-at w ↦ w.totals-is ∙ if_no _ _ (=?-false _ _ w.if-cells-at.false)
    ]))

pub returns : goal.returns
returns c = let l = c.loop-c in (filled-all 128 _ l.c l.totals l.invariant.passed c.loop-c-test.false, omega arith)
