use Rattle.listing.proofs.NumberLaws.{decimal-spelt}
use Rattle.listing.proofs.text.Text.push_number.Goals as goal

pub returns-clause-appended : goal.returns-clause-appended
returns-clause-appended c =
    rw (c.push_bytes.ensures, c.decimal-count.ensures.digits, decimal-spelt _ c.args.x c.decimal-count.ensures.len)
