use Rattle.listing.proofs.LineLaws.{line-is}
use Rattle.below.specs.Text.{ascii}
use Rattle.listing.specs.Listing.{digits, letters}
use Rattle.listing.proofs.lines.put_fields.Goals as goal

pub returns-clause-appended : goal.returns-clause-appended
unfolding ascii digits letters
returns-clause-appended c =
    let a = c.args in
    line-is
    a.sizes.m
    a.sizes.n
    a.answer.now
    c.requires.sized
    a.count
    a.out.now
    c.push_number.ensures.appended
    c.put_field.ensures.appended
    c.put_field-2.ensures.appended
    c.put_field-3.ensures.appended
    c.put_field-4.ensures.appended
    c.put_block_field.ensures.appended
    c.push.ensures
