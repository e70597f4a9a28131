-- `letters::letter_totals` meets its contract. The invariant: the totals are those of the fragments passed.
use Rattle.rewriting.proofs.LetterLaws.{totals-none, totals-more, totals-pass}
use Rattle.rewriting.proofs.letters.letter_totals.Goals.{then-sides-i, else-sides-i}
use Rattle.rewriting.proofs.letters.letter_totals.Goals as goal

pub loop-i-init : goal.loop-i-init
loop-i-init c = totals-none _ _ _ _ _

pub loop-i-preserved : goal.loop-i-preserved
loop-i-preserved c =
    elim c.if-sides-i.branch [
      | then-sides-i w ↦ rw w.totals-is (totals-more _ _ _ _ _ _ _ _ w.if-sides-i.true w.add_row.ensures c.loop-i.invariant)
      | else-sides-i w ↦ rw w.totals-is (totals-pass _ _ _ _ _ _ _ w.if-sides-i.false c.loop-i.invariant)
    ]
