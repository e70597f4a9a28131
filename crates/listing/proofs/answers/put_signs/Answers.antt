use Rattle.listing.proofs.FieldLaws.{bytes-more}
use Rattle.listing.specs.Listing.{sign_of}
use mathlib.Core.List.{append_assoc}
use Rattle.listing.proofs.answers.put_signs.Goals as goal

pub loop-code-preserved : goal.loop-code-preserved
unfolding sign_of
loop-code-preserved c =
    rw (bytes-more c.args.codes.now c.loop-code.code-index c.loop-code-test.true, c.push.ensures, c.loop-code.invariant, c.byte.ensures, c.from.ensures, append_assoc)
