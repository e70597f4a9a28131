use Rattle.listing.proofs.ListingLaws.{blank-answer}
use Rattle.listing.specs.Listing.{blank}
use Rattle.listing.proofs.services.put_least.Goals as goal

pub least-outcome-requires : goal.least-outcome-requires
unfolding blank
least-outcome-requires c = blank-answer _ _ 640 c.answer_len.ensures.size c.answer_len.ensures.within
