use Rattle.std.proofs.lemmas.Bool.Decides.{nat_tests}
use Rattle.listing.proofs.AppendLaws.{◌⨾◌}
use Rattle.listing.proofs.FieldLaws.{signs-none, signs-some}
use Rattle.below.specs.Text.{ascii}
use lib.ListN.{length}
use native.Mathlib.Omega.{arith}
use Prim.Native.Nat.{◌<◌, ◌≤◌}
use Rattle.listing.proofs.answers.put_field.Goals as goal

pub returns-then-is_empty-clause-appended : goal.returns-then-is_empty-clause-appended
unfolding ascii
returns-then-is_empty-clause-appended c =
    let z : length c.args.codes.now < 1 = grind (arith, nat_tests, c.is_empty.ensures, c.if-is_empty.true) in
    rw (signs-none _ c.args.codes.now z) ((_ ⨾ _) _ c.push.ensures c.push-then-is_empty.ensures)

pub returns-else-is_empty-clause-appended : goal.returns-else-is_empty-clause-appended
unfolding ascii
returns-else-is_empty-clause-appended c =
    let z : 1 ≤ length c.args.codes.now = grind (arith, nat_tests, c.is_empty.ensures, c.if-is_empty.false) in
    rw (signs-some _ c.args.codes.now z) ((_ ⨾ _) _ c.push.ensures c.put_signs.ensures)
