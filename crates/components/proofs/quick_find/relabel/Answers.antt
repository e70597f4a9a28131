-- `quick_find::relabel` meets its contract. The invariant: the fragments passed have their new labels and sides, by those at entry.
use native.Mathlib.Omega.{arith}
use mathlib.Core.Path.{◌≡◌}
use lib.ListN.{length}
use Rattle.components.proofs.StepLaws.{joined}
use Rattle.components.proofs.quick_find.relabel.Goals as goal

pub returns : goal.returns
returns c =
    let lp = c.loop-k in
    let e : lp.k ≡ length c.args.labels.now = omega (arith, lp.auto.k-end, c.loop-k-test.false) in
    joined (rw e at lp.invariant.0) (rw e at lp.invariant.1)
