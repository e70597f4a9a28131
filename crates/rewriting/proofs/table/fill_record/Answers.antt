-- `table::fill_record` meets its contract. The invariant: the bytes passed are the new ones.
use Rattle.below.proofs.FillLaws.{filled-all}
use Rattle.rewriting.proofs.table.fill_record.Goals as goal

pub returns : goal.returns
returns c = filled-all 32 _ c.loop-b.b c.loop-b.output c.loop-b.invariant c.loop-b-test.false
