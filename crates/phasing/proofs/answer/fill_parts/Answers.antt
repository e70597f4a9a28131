-- `answer::fill_parts` meets its contract.
-- Assumes nothing.
use borrow.Author.Rules.{rules}
use Prim.Native.Nat.{◌+◌, ◌*◌}
use lib.ListN.{length}
use Rattle.conflicts.specs.Answer.{answer_size}
use Rattle.phasing.specs.Algorithm.Haplotypes.{sections}
use Rattle.phasing.proofs.SectionLaws.{three-fill}
use Rattle.phasing.proofs.answer.fill_parts.Goals as goal

pub slice_bounds-fill_columns-end : goal.slice_bounds-fill_columns-end
unfolding answer_size
slice_bounds-fill_columns-end c = search rules

pub slice_bounds-copy-end : goal.slice_bounds-copy-end
unfolding answer_size
slice_bounds-copy-end c = search rules

pub copy-requires-2 : goal.copy-requires-2
unfolding answer_size
copy-requires-2 c = search rules

pub returns : goal.returns
unfolding sections
returns c =
    let a = c.args in
    let n3 = length a.cols.now * 3 in
    three-fill a.bytes.now c.fill_columns.ensures c.copy.ensures n3 (search rules)
    c.copy-2.ensures (n3 + length a.sides.now) (search rules)
