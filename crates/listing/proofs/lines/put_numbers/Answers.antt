use Rattle.below.specs.Text.{ascii}
use mathlib.Core.List.{append_assoc}
use Rattle.listing.proofs.lines.put_numbers.Goals as goal

pub returns-clause-appended : goal.returns-clause-appended
unfolding ascii
returns-clause-appended c =
    rw (c.push.ensures, c.push_number-2.ensures.appended, c.push_bytes-2.ensures, c.push_number.ensures.appended, c.push_bytes.ensures) (simp append_assoc)
