-- `calls::answer_sides` meets its contract.
-- Assumes nothing.
use mathlib.Core.Path.{refl, sym, ap, ◌∙◌}
use lib.ListN.{length}
use Rattle.conflicts.specs.Grid.{grid_of}
use Rattle.conflicts.proofs.MarkLaws.{all-kept-part}
use Rattle.conflicts.proofs.SideLaws.{all-length}
use Rattle.correcting.proofs.TableCorrectionLaws.{filled-masks}
use Rattle.correcting.proofs.calls.answer_sides.Goals as goal

pub fill_answer-requires : goal.fill_answer-requires
fill_answer-requires c =
    let a = c.args in
    let p = c.requires in
    (record { few = p.1; narrow = p.0; columns = ap length (all-kept-part a.n _ p.0 c.all_kept-cols.ensures) ∙ all-length a.n; fragments = refl }, p.2)

pub returns : goal.returns
unfolding grid_of
returns c =
    let a = c.args in
    let p = c.requires in
    let g = grid_of a.n a.table.now in
    let all = all-kept-part a.n _ p.0 c.all_kept-cols.ensures in
    λ lettered count lawful.
    let masks = filled-masks a.n a.table.now p.1 p.0 count (c.fill_masks.ensures a.n lettered) in
    rw (sym all) (c.fill_answer.ensures g masks count refl (rw all lawful))
