-- `quick_find::Fragments::components` meets its contract. The invariant is the state after the rows passed.
use Rattle.components.specs.Algorithm.Components.{related}
use Rattle.components.proofs.StepLaws.{says-yes}
use Rattle.components.proofs.PassLaws.{rows_end}
use Rattle.components.proofs.quick_find.Fragments.components.Goals as goal

pub loop-i-init : goal.loop-i-init
loop-i-init c = let f = c.args.self in c.alone.ensures (related f.masks.now f.keep f.frags.now)

pub returns : goal.returns
returns c =
    let f = c.args.self in
    let lp = c.loop-i in
    says-yes (rows_end f.masks.now f.keep f.frags.now c.requires.few lp.i lp.auto.i-end c.loop-i-test.false lp.invariant)
