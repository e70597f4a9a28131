-- `answer::fill_answer` meets its contract.
-- Assumes nothing.
use borrow.Author.Rules.{rules}
use mathlib.Core.Path.{ap, ◌∙◌}
use lib.ListN.{length}
use Rattle.phasing.specs.Algorithm.Haplotypes.{sections}
use Rattle.phasing.proofs.SectionLaws.{front-is}
use Rattle.phasing.proofs.AnswerLaws.{known-answer}
use Rattle.phasing.proofs.answer.fill_answer.Goals as goal

pub returns : goal.returns
returns c =
    let a = c.args in
    let cols = a.cols.now in
    let sides = a.sides.now in
    let p = c.requires.0 in
    λ g masks em en law.
    let found = c.first_sides.ensures g cols (record { masks = masks; columns = c.kept-keep.ensures }) (p.fragments ∙ em) in
    known-answer cols masks (p.fragments ∙ em) (p.columns ∙ en) sides (p.fragments ∙ em) found
    (c.fill_parts.ensures ∙ ap (sections (length sides) (length cols) a.masks.now cols sides) (front-is _ _ a.m (search rules))) law
