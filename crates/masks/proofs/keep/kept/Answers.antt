-- `keep::kept` meets its contract.
-- Assumes nothing.
use mathlib.Core.Path.{ap₂}
use Rattle.places.specs.Algorithm.Places.{places_where}
use Rattle.places.specs.Algorithm.Words.{half_word}
use Rattle.places.proofs.PlaceLaws.{places}
use Rattle.masks.proofs.keep.kept.Goals as goal

pub returns : goal.returns
unfolding places_where half_word
returns c = ap₂ places c.mark_word.ensures c.mark_word-2.ensures
