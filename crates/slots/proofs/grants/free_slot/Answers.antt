-- `grants::free_slot` meets its contract.
-- Assumes nothing.
use mathlib.Core.Path.{◌∙◌}
use Rattle.slots.proofs.GrantLaws.{free-marked}
use Rattle.slots.proofs.grants.free_slot.Goals as goal

pub returns : goal.returns
returns c = c.first_unmarked.ensures ∙ free-marked _ _ _ _ _ _ c.mark_slots.ensures
