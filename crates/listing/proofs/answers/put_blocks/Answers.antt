use Rattle.listing.proofs.FieldLaws.{words-more}
use Rattle.listing.specs.Listing.{led}
use lib.ListN.{length, length-append}
use native.Mathlib.Omega.{arith}
use mathlib.Core.List.{append-nil, append_assoc}
use mathlib.Core.Path.{sym, ap}
use Prim.Native.Nat.{ℕ}
use Rattle.listing.proofs.answers.put_blocks.Goals as goal

pub loop-block-init : goal.loop-block-init
unfolding led
loop-block-init c = record { appended = sym (append-nil _); within = omega arith }

pub loop-block-preserved : goal.loop-block-preserved
loop-block-preserved c =
    let l = c.loop-block in
    record {
      appended = rw (words-more c.args.blocks.now l.block-index c.loop-block-test.true, c.put_block.ensures.appended, c.push.ensures, l.invariant.appended) (simp append_assoc);
      within = omega (arith, length-append {A = ℕ}, ap length c.push.ensures);
    }
