-- `rows::row_joined` meets its contract. The loop's invariant: the states below l have the fragment before them, and the others not yet.
use mathlib.Core.Path.{sym, ap, subst, ◌∙◌}
use mathlib.Core.Bool.{true}
use Prim.Native.Nat.{ℕ, ◌+◌, ◌≤◌, ◌<◌}
use native.Mathlib.Nat.{le_trans}
use native.Mathlib.Omega.{arith}
use borrow.Author.Rules.{rules}
use Rattle.below.specs.Below.{nth}
use Rattle.conflicts.specs.Choice.{marked}
use Rattle.ranks.specs.Algorithm.Reading.{value}
use Rattle.ranks.specs.Algorithm.Lent.{weights_in}
use Rattle.ranks.proofs.TableLaws.{same-more}
use Rattle.fragment_pairs.specs.Algorithm.Pairs.{row_start_of}
use Rattle.fragment_pairs.proofs.CornerLaws.{row_inside}
use Rattle.fragment_pairs.proofs.PairLaws.{RowReads, row_fits, row_more, furthest-range}
use Rattle.fragment_pairs.proofs.rows.row_joined.Goals as goal
use Rattle.fragment_pairs.proofs.rows.row_joined.Goals.{After-row_start-next}

-- the places of a pair, and of what it moves to, are in the table
inside : (c : After-row_start-next) (l : ℕ) → l ≤ c.args.h → (c.row_start-start.result + l < 8385) × (c.row_start-next.result + l < 8385)
inside c l lh =
    let h = c.args.h in
    let f = c.args.f.now in
    let placed = f.placed in
    let one : (h ≤ c.furthest_of.result) × (c.furthest_of.result ≤ f.i + 1) = subst (λ (x : ℕ). (h ≤ x) × (x ≤ f.i + 1)) (sym c.furthest_of.ensures) (furthest-range (nth f.reaches.now) h f.i c.requires.1) in
    (row_inside h l c.row_start-start.ensures lh (omega arith), row_inside c.furthest_of.result l c.row_start-next.ensures (le_trans lh one.0) (omega arith))

reads : (c : After-row_start-next) →
    let a = c.args in
    let f = a.f.now in
    RowReads (nth f.reaches.now) (value f.own) f.i (nth (weights_in a.t.now)) a.h c.row_start-start.result c.row_start-next.result (value a.far)
reads c = record { begins = c.row_start-start.ensures; moves = c.row_start-next.ensures ∙ ap row_start_of c.furthest_of.ensures; last = c.requires.3 }

pub overflow_add-j : goal.overflow_add-j
overflow_add-j c = let k = inside (goal.at.overflow_add-j c).After-row_start-next c.loop-l.l (omega arith) in search rules

pub overflow_add-next : goal.overflow_add-next
overflow_add-next c = let k = inside (goal.at.overflow_add-next c).After-row_start-next c.loop-l.l (omega arith) in search rules

pub weight_at-r-requires : goal.weight_at-r-requires
weight_at-r-requires c =
    let at = (goal.at.weight_at-r-requires c).After-row_start-next in
    let l = c.loop-l in
    let a = c.args in
    let f = a.f.now in
    let k = inside at l.l (omega arith) in
    (k.0, k.1, omega arith, row_fits (marked f.agrees.now) (nth f.reaches.now) f.own f.i (nth (weights_in a.t.now)) (nth (weights_in l.t)) a.d a.h l.l (reads at) c.requires.1 (omega arith) (omega arith) l.invariant.weights c.requires.2)

pub put-requires : goal.put-requires
put-requires c = (search rules, ((inside (goal.at.put-requires c).After-row_start-next c.loop-l.l (omega arith)).0, c.weight_at-r.ensures.1))

pub loop-l-preserved : goal.loop-l-preserved
loop-l-preserved c =
    let l = c.loop-l in
    let a = c.args in
    let f = a.f.now in record {
      weights = row_more (marked f.agrees.now) (nth f.reaches.now) f.own f.i (nth (weights_in a.t.now)) (nth (weights_in l.t)) a.d a.h l.l (reads (goal.at.loop-l-preserved c).After-row_start-next) c.requires.1 (omega arith) (omega arith) l.invariant.weights
          true (sym c.requires.4) c.weight_at-r.ensures.0 c.put.ensures.weights;
      arrays = same-more l.invariant.arrays c.put.ensures.arrays;
    }
