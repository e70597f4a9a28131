-- `fragments::Fragments::least` meets its contract. A call's `.type_inv` says that the fields of the Rank it hands back fit; `.1.1.1.0.1` is its higher word, `.1.1.1.1.0.1` its lower.
use mathlib.Core.Path.{◌≡◌, ◌∙◌}
use Prim.Native.Nat.{◌+◌, zero-le}
use native.Mathlib.Omega.{arith}
use borrow.Author.Rules.{rules}
use lib.ListN.{length, replicate}
use Rattle.below.specs.Below.{tab}
use Rattle.below.proofs.FillLaws.{filled_none, filled_more, filled-all}
use Rattle.conflicts.specs.Choice.{zeros}
use Rattle.conflicts.specs.Removal.{fragment_keep_marks_of}
use Rattle.masks.specs.Algorithm.Masks.{words_grid}
use Rattle.ranks.specs.Algorithm.Weight.{digit_at}
use Rattle.ranks.specs.Algorithm.Reading.{code}
use Rattle.fragment_pairs.specs.Algorithm.Pairs.{row_start_of, corner}
use Rattle.fragment_removal.specs.Algorithm.Matrix.{grid_in}
use Rattle.fragment_removal.proofs.HoldingLaws.{first-zeros-pairs, holds-none}
use Rattle.fragment_removal.proofs.FragmentLaws.{rank-marks}
use Rattle.fragment_removal.proofs.fragments.Fragments.least.Goals as goal
use Rattle.fragment_removal.proofs.fragments.Fragments.least.Goals.{After-get-most}

pub suffixes-requires : goal.suffixes-requires
suffixes-requires c =
    let zero : c.fill.new.self ≡ replicate (length c.args.work.now) 0 = search rules in
    holds-none _ _ _ (first-zeros-pairs (omega arith) zero c.first_of-table.ensures)

-- what the weight of the first states says
marks : (c : After-get-most) →
    let a = c.args in
    let g = grid_in a.self.now in
    let r = c.get-most.result in
    (tab a.self.now.m (λ p. digit_at (code r) p) ≡ fragment_keep_marks_of g) × (r.count + zeros (fragment_keep_marks_of g) ≡ a.self.now.m)
unfolding words_grid row_start_of corner
marks c =
    let r = c.get-most in
    let a = c.args in
    let p = a.self.now.prepared in
    rank-marks (grid_in a.self.now) p.gapless p.rising p.few r.result r.type_inv.1.1.1.0.1 r.type_inv.1.1.1.1.0.1
    (r.ensures ∙ c.suffixes.ensures.holds 0 0 zero-le zero-le zero-le zero-le)

pub loop-p-init : goal.loop-p-init
loop-p-init c = filled_none _ _ _ c.requires.1

pub loop-p-preserved : goal.loop-p-preserved
loop-p-preserved c = let l = c.loop-p in filled_more _ _ l.p l.keep _ l.invariant (omega arith) c.digit.ensures

pub overflow_sub-result : goal.overflow_sub-result
overflow_sub-result c = let e = (marks (goal.at.overflow_sub-result c).After-get-most).1 in omega arith

pub returns : goal.returns
returns c =
    let l = c.loop-p in
    let m = marks (goal.at.returns c).After-get-most in
    let zero : c.fill-2.new.self ≡ replicate (length c.args.work.now) 0 = search rules in
    (filled-all _ _ l.p l.keep l.invariant (omega arith) ∙ m.0, let e = m.1 in omega arith, zero)
