-- `copying::birth` meets its contract. The loop's invariant: state s has the weights of the next state with the states below h.
use Prim.Native.Nat.{ℕ, ◌+◌, ◌≤◌, ◌<◌}
use native.Mathlib.Nat.{le_refl}
use native.Mathlib.Omega.{arith}
use borrow.Author.Rules.{rules}
use Rattle.ranks.proofs.TableLaws.{same-more}
use Rattle.fragment_pairs.proofs.CornerLaws.{row_inside}
use Rattle.fragment_pairs.proofs.BirthLaws.{born-more, born-all}
use Rattle.fragment_pairs.proofs.copying.birth.Goals as goal
use Rattle.fragment_pairs.proofs.copying.birth.Goals.{After-row_start-own, After-row_start-start}

-- the places of a row are in the table
inside : (c : After-row_start-start) (l : ℕ) → l ≤ c.loop-h.h → c.row_start-start.result + l < 8385
inside c l lh = row_inside c.loop-h.h l c.row_start-start.ensures lh (omega arith)

pub overflow_add-start : goal.overflow_add-start
overflow_add-start c = let k = inside (goal.at.overflow_add-start c).After-row_start-start (c.args.s + 1) (omega arith) in search rules

pub overflow_add-start-in-loop-h : goal.overflow_add-start-in-loop-h
overflow_add-start-in-loop-h c = let k = inside (goal.at.overflow_add-start-in-loop-h c).After-row_start-start c.args.s (omega arith) in search rules

pub copy-requires : goal.copy-requires
copy-requires c =
    let at = (goal.at.copy-requires c).After-row_start-start in
    (search rules, (inside at (c.args.s + 1) (omega arith), inside at c.args.s (omega arith)))

pub loop-h-preserved : goal.loop-h-preserved
loop-h-preserved c =
    let l = c.loop-h in record {
      weights = born-more c.args.s l.h l.invariant.weights (omega arith) c.row_start-start.ensures c.copy.ensures.weights;
      arrays = same-more l.invariant.arrays c.copy.ensures.arrays;
    }

-- the places of the pairs of each state with itself are in the table
inside-own : (c : After-row_start-own) → (c.row_start-other.result + (c.args.s + 1) < 8385) × (c.row_start-own.result + c.args.s < 8385)
inside-own c =
    let s = c.args.s in
    (row_inside (s + 1) (s + 1) c.row_start-other.ensures (le_refl (s + 1)) (omega arith), row_inside s s c.row_start-own.ensures (le_refl s) (omega arith))

pub overflow_add-other : goal.overflow_add-other
overflow_add-other c = let k = inside-own (goal.at.overflow_add-other c).After-row_start-own in search rules

pub overflow_add-own : goal.overflow_add-own
overflow_add-own c = let k = inside-own (goal.at.overflow_add-own c).After-row_start-own in search rules

pub copy-requires-2 : goal.copy-requires-2
copy-requires-2 c = (search rules, inside-own (goal.at.copy-requires-2 c).After-row_start-own)

pub returns : goal.returns
returns c =
    let l = c.loop-h in record {
      weights = born-all c.args.s c.args.n l.h l.invariant.weights (omega arith) c.row_start-own.ensures c.row_start-other.ensures c.copy-2.ensures.weights;
      arrays = same-more l.invariant.arrays c.copy-2.ensures.arrays;
    }
