-- `rows::layer` meets its contract. The loop's invariant: the rows below h have the fragment before them, and the others not yet.
use Prim.Native.Nat.{◌+◌}
use native.Mathlib.Omega.{arith}
use Rattle.below.specs.Below.{nth}
use Rattle.conflicts.specs.Choice.{marked}
use Rattle.ranks.specs.Algorithm.Reading.{value}
use Rattle.ranks.specs.Algorithm.Lent.{weights_in}
use Rattle.ranks.proofs.TableLaws.{same-more}
use Rattle.fragment_pairs.proofs.PairLaws.{rows_more, rows-room, rows_made}
use Rattle.fragment_pairs.proofs.rows.layer.Goals as goal

pub row-requires : goal.row-requires
row-requires c =
    let l = c.loop-h in
    let a = c.args in
    let f = a.f.now in
    (omega arith, omega arith, rows-room (marked f.agrees.now) (nth f.reaches.now) (value f.own) f.i (nth (weights_in a.t.now)) (nth (weights_in l.t)) a.d l.h l.invariant.weights f.own (omega arith) c.requires.1)

pub loop-h-preserved : goal.loop-h-preserved
loop-h-preserved c =
    let l = c.loop-h in
    let a = c.args in
    let f = a.f.now in record {
      weights = rows_more (marked f.agrees.now) (nth f.reaches.now) (value f.own) f.i (nth (weights_in a.t.now)) (nth (weights_in l.t)) a.d l.h l.invariant.weights (omega arith) c.row.ensures.weights;
      arrays = same-more l.invariant.arrays c.row.ensures.arrays;
    }

pub returns-clause-weights : goal.returns-clause-weights
returns-clause-weights c =
    let l = c.loop-h in
    let a = c.args in
    let f = a.f.now in
    rows_made (marked f.agrees.now) (nth f.reaches.now) (value f.own) f.i (nth (weights_in a.t.now)) (nth (weights_in l.t)) a.d l.h l.invariant.weights (f.i + 1) (omega arith)
