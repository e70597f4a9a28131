-- `lines::conflict_count` meets its contract.
-- Assumes nothing.
use mathlib.Core.Path.{ap, ◌∙◌}
use Rattle.places.specs.Algorithm.Places.{size, both_places, conflict_size}
use Rattle.places.proofs.lines.conflict_count.Goals as goal

pub returns : goal.returns
unfolding conflict_size
returns c =
    let a = c.args in
    record { number = c.count.ensures.number ∙ ap size (c.both.ensures ∙ ap (both_places a.keep) c.conflicts.ensures); most = c.count.ensures.most }
