-- `fragments::positions_agree` meets its contract.
-- Assumes nothing.
use mathlib.Core.Path.{ap, ◌∙◌}
use mathlib.Core.Bool.{not}
use Rattle.below.specs.Below.{isnt}
use Rattle.places.specs.Algorithm.Places.{occupied}
use Rattle.fragment_states.specs.Algorithm.Fragments.{words_agree}
use Rattle.fragment_states.proofs.fragments.positions_agree.Goals as goal

pub returns : goal.returns
unfolding words_agree isnt
returns c = ap not (c.any.ensures ∙ ap occupied c.conflicts.ensures)
