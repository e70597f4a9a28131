-- `layout::fill_record` meets its contract.
-- Assumes nothing.
use mathlib.Core.Path.{sym, ap, ◌∙◌}
use native.Mathlib.Omega.{arith}
use Rattle.fields.specs.Writing.{laid_out}
use Rattle.writing.proofs.LayoutLaws.{laid, cut-part, part_small, writable-short}
use Rattle.writing.proofs.layout.fill_record.Goals as goal

pub header-requires : goal.header-requires
header-requires c =
    let s = writable-short c.args.row.now c.requires.t in
    let f = c.requires.span_in_bounds.0 in
    (omega arith, c.requires.span_in_bounds.1)

pub fill_cells-requires-clause-by_index : goal.fill_cells-requires-clause-by_index
fill_cells-requires-clause-by_index c = part_small c.args.row.now c.args.start c.args.span c.requires.t c.requires.span_in_bounds.0

pub returns : goal.returns
returns c =
    let a = c.args in
    laid a.tag a.start a.span a.grade _ _ _ (c.copy_from_slice.ensures.after ∙ c.header.ensures) c.fill_cells.ensures
    ∙ ap (laid_out a.tag a.start a.span a.grade) (sym (cut-part a.row.now a.start a.span c.requires.span_in_bounds.0))
