use Rattle.below.specs.Text.{ascii}
use Rattle.listing.specs.Listing.{line, joined, led, refusal}
use mathlib.Core.List.{append-nil, append_assoc}
use Rattle.listing.proofs.lines.put_refusal.Goals as goal

pub returns-clause-appended : goal.returns-clause-appended
unfolding line joined led refusal ascii
returns-clause-appended c =
    rw (c.put_numbers.ensures.appended, c.from.ensures, c.number.ensures) (simp (append_assoc, append-nil))
