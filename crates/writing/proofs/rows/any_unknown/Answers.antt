-- `rows::any_unknown` meets its contract. The loop's invariant: whether a code without a meaning stands before column c.
use mathlib.Core.Path.{refl}
use Rattle.below.specs.Below.{any_below}
use Rattle.fields.specs.Writing.{codes_of}
use Rattle.writing.proofs.ScanLaws.{unknown-more}
use Rattle.writing.proofs.rows.any_unknown.Goals as goal

pub loop-code-init : goal.loop-code-init
unfolding any_below
loop-code-init c = refl

pub loop-code-preserved : goal.loop-code-preserved
loop-code-preserved c =
    let loop = c.loop-code in
    unknown-more (codes_of c.args.row.now) loop.code-index _ _ loop.invariant refl
