-- `answer::phase_with` meets its contract.
-- Assumes nothing.
use borrow.Author.Rules.{rules}
use mathlib.Core.Path.{◌≡◌, ◌∙◌}
use lib.ListN.{length}
use Rattle.phasing.proofs.AnswerLaws.{answer-yes, answer-no}
use Rattle.phasing.proofs.answer.phase_with.Goals as goal

pub returns-then-ok : goal.returns-then-ok
returns-then-ok c =
    let cols = c.args.cols.now in
    let s = c.requires.0.sided in
    let same : length c.first_sides-ok.new.sides ≡ length c.args.fragments.frags.now = search rules in
    λ g masks em en.
    let found = c.first_sides-ok.ensures g cols (record { masks = masks; columns = c.requires.2 }) em in
    answer-yes cols masks (same ∙ em) en found em c.if-ok.true c.fill_parts.ensures

pub returns-else-ok : goal.returns-else-ok
returns-else-ok c =
    let cols = c.args.cols.now in
    λ g masks em en. answer-no cols masks em en (c.first_sides-ok.ensures g cols (record { masks = masks; columns = c.requires.2 }) em) c.if-ok.false
