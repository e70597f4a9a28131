-- `letters::correct_cells` meets its contract.
-- Assumes nothing.
use mathlib.Core.Path.{◌∙◌}
use Rattle.rewriting.proofs.LetterLaws.{all-corrected}
use Rattle.rewriting.proofs.letters.correct_cells.Goals as goal

pub returns : goal.returns
returns c = c.fill_corrected.ensures ∙ all-corrected _ _ _ c.args.weights.now _ _ _ c.requires.1 c.side_letters-first.ensures c.side_letters-second.ensures
