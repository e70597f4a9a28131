-- `places::Places::first` meets its contract.
-- Assumes nothing.
use Rattle.places.proofs.ShiftLaws.{first-places}
use Rattle.places.proofs.places.Places.first.Goals as goal

pub returns : goal.returns
returns c = first-places c.args.count c.min.ensures c.saturating_sub.ensures c.first_bits.ensures c.first_bits-2.ensures
