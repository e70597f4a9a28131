-- `copying::births` meets its contract. The loop's invariant: the states from s on have the weights of state d.
use Prim.Native.Nat.{◌-◌}
use native.Mathlib.Omega.{arith}
use Rattle.ranks.proofs.TableLaws.{same-more}
use Rattle.fragment_pairs.proofs.BirthLaws.{copied_more}
use Rattle.fragment_pairs.proofs.copying.births.Goals as goal

pub loop-s-preserved : goal.loop-s-preserved
loop-s-preserved c =
    let l = c.loop-s in record {
      weights = copied_more (l.s - 1) c.args.d c.args.n (omega arith) (omega arith) c.requires.1 l.invariant.weights c.birth.ensures.weights;
      arrays = same-more l.invariant.arrays c.birth.ensures.arrays;
    }
