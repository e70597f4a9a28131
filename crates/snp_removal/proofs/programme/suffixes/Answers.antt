-- `programme::suffixes` meets its contract. The loop's invariant: the table holds the weights of the last k columns.
use native.Mathlib.Omega.{arith}
use Rattle.snp_removal.proofs.programme.suffixes.Goals as goal

pub extend-requires : goal.extend-requires
extend-requires c =
    let r = c.requires in
    let l = c.loop-k in
    (r.0, omega arith, r.1, r.2, r.3, l.invariant r.1 r.2 r.3 r.4)

pub loop-k-preserved : goal.loop-k-preserved
loop-k-preserved c = λ g masks width held. c.extend.ensures g masks width (c.loop-k.invariant g masks width held)
