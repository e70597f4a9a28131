-- `letters::letters_of` meets its contract.
-- Assumes nothing.
use mathlib.Core.Path.{refl, ap₂}
use Rattle.below.specs.Below.{◌=?◌}
use Rattle.places.specs.Algorithm.Places.{places_where}
use Rattle.places.proofs.PlaceLaws.{places}
use Rattle.fields.specs.Algorithm.Letters.{has_a, has_b, letters_in}
use Rattle.fields.proofs.LetterLaws.{line, low_word, high_word}
use Rattle.fields.proofs.letters.letters_of.Goals as goal

pub returns : goal.returns
unfolding letters_in places_where has_a has_b ◌=?◌
returns c =
    let r = c.args.part.now in
    let low = c.letter_words-a_low in
    let high = c.letter_words-a_high in
    ap₂ line (ap₂ places (low_word r has_a refl low.ensures.a) (high_word r has_a refl high.ensures.a)) (ap₂ places (low_word r has_b refl low.ensures.b) (high_word r has_b refl high.ensures.b))
