use Rattle.below.specs.Text.{ascii}
use Rattle.listing.specs.Listing.{line, joined, led, sizes_line}
use mathlib.Core.List.{append-nil, append_assoc}
use Rattle.listing.proofs.lines.put_sizes.Goals as goal

pub returns-clause-appended : goal.returns-clause-appended
unfolding line joined led sizes_line ascii
returns-clause-appended c = rw c.put_numbers.ensures.appended (simp (append_assoc, append-nil))
