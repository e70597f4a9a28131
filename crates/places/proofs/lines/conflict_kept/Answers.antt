-- `lines::conflict_kept` meets its contract.
-- Assumes nothing.
use mathlib.Core.Path.{ap, ◌∙◌}
use Rattle.places.specs.Algorithm.Places.{both_places, occupied, conflict_kept_in}
use Rattle.places.proofs.lines.conflict_kept.Goals as goal

pub returns : goal.returns
unfolding conflict_kept_in
returns c = c.any.ensures ∙ ap occupied (c.both.ensures ∙ ap (both_places c.args.keep) c.conflicts.ensures)
