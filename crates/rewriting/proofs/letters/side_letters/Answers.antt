-- `letters::side_letters` meets its contract.
-- Assumes nothing.
use Rattle.rewriting.proofs.LetterLaws.{letters-are}
use Rattle.rewriting.proofs.letters.side_letters.Goals as goal

pub returns : goal.returns
returns c = letters-are _ _ _ _ _ _ _ _ c.letter_totals-a.ensures c.letter_totals-b.ensures c.majorities.ensures
