-- `snp_keep_marks` meets its contract.
use borrow.Author.Rules.{rules}
use mathlib.Core.Path.{refl, ap, ◌∙◌}
use Prim.Native.Nat.{ℕ, ◌-◌, zero-le}
use native.Mathlib.Omega.{arith}
use Rattle.below.proofs.FillLaws.{filled_none, filled_more, filled-all}
use Rattle.masks.specs.Algorithm.Masks.{words_grid}
use Rattle.snp_removal.proofs.StateLaws.{columns-of, zeros-held}
use Rattle.snp_removal.proofs.SnpLaws.{rank-marks}
use Rattle.snp_removal.proofs.snp_keep_marks.Goals as goal

pub suffixes-requires : goal.suffixes-requires
unfolding words_grid
suffixes-requires c =
    let a = c.args in
    let p = c.requires in
    (p.1, words_grid a.m a.n a.masks.now, columns-of a.m a.n a.masks.now p.0 p.1 (c.fill_columns.ensures _ p.2), refl, zeros-held _ c.new-table.ensures.weights)

pub loop-p-init : goal.loop-p-init
loop-p-init c = filled_none _ _ _ c.requires.4

pub loop-p-preserved : goal.loop-p-preserved
loop-p-preserved c = let l = c.loop-p in filled_more _ _ l.p l.keep _ l.invariant (omega arith) (ap (λ (d : ℕ). 1 - d) c.digit.ensures)

pub returns : goal.returns
unfolding words_grid
returns c =
    let a = c.args in
    let p = c.requires in
    let g = words_grid a.m a.n a.masks.now in
    let r = c.get-least in
    let held = c.suffixes.ensures g (columns-of a.m a.n a.masks.now p.0 p.1 (c.fill_columns.ensures _ p.2)) refl (zeros-held g c.new-table.ensures.weights) in
    let m = rank-marks g p.3 p.1 r.result (search rules) (search rules) (r.ensures ∙ held.holds 0 zero-le) in
    (filled-all _ _ c.loop-p.p c.loop-p.keep c.loop-p.invariant (omega arith) ∙ m.0, m.1)
