-- `rows::row` meets its contract. A call's `.type_inv` says that the fields of the Rank it hands back fit; `.1.1.1.0.1` is its higher word, `.1.1.1.1.0.1` its lower.
-- Assumes nothing.
use mathlib.Core.Path.{◌≡◌, sym, ap, ◌∙◌}
use Prim.Native.Nat.{ℕ, ◌+◌, ◌<◌}
use native.Mathlib.Nat.{le_refl}
use native.Mathlib.Omega.{arith}
use borrow.Author.Rules.{rules}
use Rattle.below.specs.Below.{nth}
use Rattle.ranks.specs.Algorithm.Reading.{value}
use Rattle.ranks.specs.Algorithm.Lent.{weights_in}
use Rattle.fragment_pairs.specs.Algorithm.Pairs.{pairs}
use Rattle.fragment_pairs.proofs.CornerLaws.{row_inside, corner-last}
use Rattle.fragment_pairs.proofs.PairLaws.{sum_fits}
use Rattle.fragment_pairs.proofs.rows.row.Goals as goal
use Rattle.fragment_pairs.proofs.rows.row.Goals.{After-get, After-plus-far, After-row_start-last}

-- the last row is in the table
inside : (c : After-row_start-last) → c.row_start-last.result + (c.args.f.now.i + 1) < 8385
inside c = let f = c.args.f.now in let i = f.placed in row_inside (f.i + 1) (f.i + 1) c.row_start-last.ensures (le_refl (f.i + 1)) (omega arith)

pub overflow_add-last : goal.overflow_add-last
overflow_add-last c = let k = inside (goal.at.overflow_add-last c).After-row_start-last in search rules

pub get-requires : goal.get-requires
get-requires c = let k = inside (goal.at.get-requires c).After-row_start-last in search rules

-- what is read there
last : (c : After-get) → let a = c.args in value c.get.result ≡ pairs (weights_in a.t.now) a.h (a.f.now.i + 1)
last c =
    let a = c.args in
    c.get.ensures ∙ ap (nth (weights_in a.t.now)) (corner-last a.h a.f.now.i c.row_start-last.ensures c.requires.1)

pub plus-far-requires : goal.plus-far-requires
plus-far-requires c =
    let get = c.get in
    let h = c.args.h in
    let f = c.args.f.now in
    let room = c.requires.2 in
    sum_fits f.own get.result room.others room.few room.fits get.type_inv.1.1.1.0.1 get.type_inv.1.1.1.1.0.1 (last (goal.at.plus-far-requires c).After-get) (room.small h (f.i + 1) (le_refl h) (omega arith) (omega arith) (le_refl (f.i + 1)))

far : (c : After-plus-far) → let a = c.args in value c.plus-far.result ≡ value a.f.now.own + pairs (weights_in a.t.now) a.h (a.f.now.i + 1)
far c =
    let a = c.args in
    c.plus-far.ensures ∙ ap (λ (x : ℕ). value a.f.now.own + x) (c.get.ensures ∙ ap (nth (weights_in a.t.now)) (corner-last a.h a.f.now.i c.row_start-last.ensures c.requires.1))

pub row_joined-requires : goal.row_joined-requires
row_joined-requires c =
    let p = c.requires in (p.0, p.1, p.2, far (goal.at.row_joined-requires c).After-plus-far, sym c.joins.ensures ∙ c.if-joins.true)

pub row_apart-requires : goal.row_apart-requires
row_apart-requires c =
    let p = c.requires in (p.0, p.1, p.2, far (goal.at.row_apart-requires c).After-plus-far, sym c.joins.ensures ∙ c.if-joins.false)
