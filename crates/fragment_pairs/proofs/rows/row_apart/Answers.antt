-- `rows::row_apart` meets its contract. The loop's invariant: the states below l have the fragment before them, and the others not yet.
use mathlib.Core.Path.{refl, sym}
use mathlib.Core.Bool.{false}
use Prim.Native.Nat.{ℕ, ◌+◌, ◌≤◌, ◌<◌}
use native.Mathlib.Omega.{arith}
use borrow.Author.Rules.{rules}
use Rattle.below.specs.Below.{nth}
use Rattle.conflicts.specs.Choice.{marked}
use Rattle.ranks.specs.Algorithm.Reading.{value}
use Rattle.ranks.specs.Algorithm.Lent.{weights_in}
use Rattle.ranks.proofs.TableLaws.{same-more}
use Rattle.fragment_pairs.specs.Algorithm.Layer.{furthest}
use Rattle.fragment_pairs.specs.Algorithm.Pairs.{row_start_of}
use Rattle.fragment_pairs.proofs.CornerLaws.{row_inside}
use Rattle.fragment_pairs.proofs.PairLaws.{RowReads, row_fits, fits-here, row_more}
use Rattle.fragment_pairs.proofs.rows.row_apart.Goals as goal
use Rattle.fragment_pairs.proofs.rows.row_apart.Goals.{After-row_start-start}

-- the place of a pair is in the table
inside : (c : After-row_start-start) (l : ℕ) → l ≤ c.args.h → c.row_start-start.result + l < 8385
inside c l lh = let i = c.args.f.now.placed in row_inside c.args.h l c.row_start-start.ensures lh (omega arith)

reads : (c : After-row_start-start) →
    let a = c.args in
    let f = a.f.now in
    let r = nth f.reaches.now in
    RowReads r (value f.own) f.i (nth (weights_in a.t.now)) a.h c.row_start-start.result (row_start_of (furthest r a.h f.i)) (value a.far)
reads c = record { begins = c.row_start-start.ensures; moves = refl; last = c.requires.3 }

pub overflow_add-start : goal.overflow_add-start
overflow_add-start c = let k = inside (goal.at.overflow_add-start c).After-row_start-start c.loop-l.l (omega arith) in search rules

pub put_apart-requires : goal.put_apart-requires
put_apart-requires c =
    let at = (goal.at.put_apart-requires c).After-row_start-start in
    let l = c.loop-l in
    let a = c.args in
    let f = a.f.now in
    (inside at l.l (omega arith), omega arith, fits-here (row_fits (marked f.agrees.now) (nth f.reaches.now) f.own f.i (nth (weights_in a.t.now)) (nth (weights_in l.t)) a.d a.h l.l (reads at) c.requires.1 (omega arith) (omega arith) l.invariant.weights c.requires.2))

pub loop-l-preserved : goal.loop-l-preserved
loop-l-preserved c =
    let l = c.loop-l in
    let a = c.args in
    let f = a.f.now in record {
      weights = row_more (marked f.agrees.now) (nth f.reaches.now) f.own f.i (nth (weights_in a.t.now)) (nth (weights_in l.t)) a.d a.h l.l (reads (goal.at.loop-l-preserved c).After-row_start-start) c.requires.1 (omega arith) (omega arith) l.invariant.weights
          false (sym c.requires.4) refl c.put_apart.ensures.weights;
      arrays = same-more l.invariant.arrays c.put_apart.ensures.arrays;
    }
