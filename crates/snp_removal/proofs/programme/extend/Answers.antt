-- `programme::extend` meets its contract.
-- Assumes nothing.
use borrow.Author.Rules.{rules}
use mathlib.Core.Path.{◌∙◌}
use Prim.Native.Nat.{◌-◌, ◌<◌}
use native.Mathlib.Omega.{arith}
use Rattle.below.specs.Below.{nth}
use Rattle.ranks.specs.Algorithm.Lent.{weights_in}
use Rattle.snp_removal.proofs.PairLaws.{mixed-is}
use Rattle.snp_removal.proofs.StateLaws.{holds-room, holds-mixed, holds_plain, by-lines}
use Rattle.snp_removal.proofs.programme.extend.Goals as goal

pub column-requires : goal.column-requires
column-requires c =
    let a = c.args in
    let r = c.requires in
    let width = r.4 in
    (search rules, holds-room r.2 a.k _ (nth (weights_in a.t.now)) (omega (arith, r.1)) (omega arith) r.5 (omega (arith, r.0)))

pub returns-then-column_mixed : goal.returns-then-column_mixed
returns-then-column_mixed c = λ g masks width held.
    let a = c.args in
    let inside : a.n - 1 - a.k < g.n = omega (arith, c.requires.1) in
    holds-mixed g a.k _ (nth (weights_in a.t.now)) (omega (arith, c.requires.1)) (omega arith) held _
    (mixed-is g a.columns.now _ masks inside c.column_mixed.ensures ∙ c.if-column_mixed.true) (by-lines g a.columns.now _ masks inside c.column.ensures)

pub returns-else-column_mixed : goal.returns-else-column_mixed
returns-else-column_mixed c = λ g masks width held.
    let a = c.args in
    let inside : a.n - 1 - a.k < g.n = omega (arith, c.requires.1) in
    holds_plain g a.k _ (nth (weights_in a.t.now)) (omega (arith, c.requires.1)) (omega arith) held
    (mixed-is g a.columns.now _ masks inside c.column_mixed.ensures ∙ c.if-column_mixed.false)
