use Rattle.listing.proofs.FieldLaws.{words-none, words-some}
use Rattle.listing.proofs.NumberLaws.{block-some}
use Rattle.below.specs.Text.{ascii}
use mathlib.Core.List.{append_assoc}
use Rattle.listing.proofs.answers.put_block_field.Goals as goal

pub returns-in-empty-clause-appended : goal.returns-in-empty-clause-appended
unfolding ascii
returns-in-empty-clause-appended c =
    rw (words-none "," _ c.args.blocks.now c.in-empty.len_below, c.push-in-empty.ensures, c.push.ensures, append_assoc)

pub returns-in-len1-up-clause-appended : goal.returns-in-len1-up-clause-appended
unfolding ascii
returns-in-len1-up-clause-appended c =
    rw (words-some "," _ c.args.blocks.now c.in-len1-up.len_at_least block-some, c.put_blocks.ensures.appended, c.put_block.ensures.appended, c.push.ensures) (simp append_assoc)
