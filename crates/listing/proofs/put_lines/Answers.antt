use Rattle.listing.specs.Listing.{least_line, listed}
use Rattle.below.specs.Below.{◌=?◌}
use mathlib.Core.List.{append_assoc}
use Rattle.listing.proofs.put_lines.Goals as goal

pub returns : goal.returns
unfolding listed least_line ◌=?◌
returns c =
    rw (c.put_least-3.ensures.appended, c.put_least-2.ensures.appended, c.put_least.ensures.appended, c.put_check.ensures.appended, c.put_sizes.ensures.appended, c.requires) (simp append_assoc)
