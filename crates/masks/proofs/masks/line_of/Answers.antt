-- `masks::line_of` meets its contract.
-- Assumes nothing.
use borrow.Author.Rules.{rules}
use Rattle.fields.specs.Table.{fragments}
use Rattle.conflicts.specs.Grid.{grid_of}
use Rattle.masks.proofs.LineLaws.{line-none}
use Rattle.masks.proofs.masks.line_of.Goals as goal

pub fragment_line-requires : goal.fragment_line-requires
unfolding fragments
fragment_line-requires c = search rules

pub returns-else-i-table : goal.returns-else-i-table
unfolding grid_of fragments
returns-else-i-table c = λ n lettered. line-none (grid_of n c.args.table.now) c.args.i c.if-i-table.false
