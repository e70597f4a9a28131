use Rattle.listing.proofs.NumberLaws.{decimal-short}
use Rattle.below.specs.Text.{ascii}
use Rattle.listing.specs.Listing.{decimal, block_word}
use Rattle.below.proofs.BelowLaws.{if-true, if-false, eq-=?, ne-isnt}
use Rattle.below.specs.Below.{◌=?◌}
use lib.ListN.{length-append}
use native.Mathlib.Omega.{arith}
use Rattle.listing.proofs.answers.put_block.Goals as goal

pub returns-then-block-eq255-clause-appended : goal.returns-then-block-eq255-clause-appended
unfolding block_word ascii
returns-then-block-eq255-clause-appended c =
    let b = c.args.block in
    rw (if-true (b =? 255) (ascii "-") (decimal b) (eq-=? _ _ c.if-block-eq255.true), c.push.ensures)

pub returns-else-block-eq255-clause-appended : goal.returns-else-block-eq255-clause-appended
unfolding block_word ascii
returns-else-block-eq255-clause-appended c =
    let b = c.args.block in
    rw (if-false (b =? 255) (ascii "-") (decimal b) (ne-isnt _ _ c.if-block-eq255.false), c.push_number.ensures.appended, c.from.ensures)

pub returns-else-block-eq255-clause-within : goal.returns-else-block-eq255-clause-within
returns-else-block-eq255-clause-within c =
    let s = decimal-short 2 c.from.result (omega arith) in
    rw (c.push_number.ensures.appended, length-append) (omega arith)
