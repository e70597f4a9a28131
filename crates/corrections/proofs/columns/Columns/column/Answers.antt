-- `columns::Columns::column` meets its contract. The loop's invariant: the table holds the least weights from the events of fragment f at the column on.
use mathlib.Core.Path.{sym, ◌∙◌}
use Prim.Native.Nat.{suc, ◌+◌, ◌-◌, ◌≤◌}
use native.Mathlib.Omega.{arith}
use Rattle.below.specs.Below.{nth}
use Rattle.ranks.specs.Algorithm.Lent.{weights_in}
use Rattle.matrix.specs.Algorithm.Matrix.{weighted_grid}
use Rattle.corrections.specs.Algorithm.Elimination.{grid_in}
use Rattle.corrections.proofs.PriceLaws.{gathered-prices, price-most}
use Rattle.corrections.proofs.StepLaws.{column-room, part_room, part-next, step-charge, step-if, step-column}
use Rattle.corrections.proofs.columns.Columns.column.Goals as goal

pub charge-requires : goal.charge-requires
unfolding weighted_grid
charge-requires c =
    let a = c.args in
    let s = a.self.now in
    let r = s.ready in
    let lt = c.requires.0 in
    let g = grid_in s in (
      gathered-prices g s.slots.now a.c 1 s.m _ (price-most s.m s.n s.cells.now s.weights.now r.weighed a.c 1) c.gather.ensures.a,
      gathered-prices g s.slots.now a.c 2 s.m _ (price-most s.m s.n s.cells.now s.weights.now r.weighed a.c 2) c.gather.ensures.b,
      column-room g s.slots.now (λ i h. r.weighed.most i) r.shallow r.matrix.rows r.matrix.columns (a.c + 1) (s.n - (a.c + 1)) (nth (weights_in a.t.now)) (omega arith) c.requires.1,
    )

pub loop-f-init : goal.loop-f-init
unfolding weighted_grid
loop-f-init c =
    let a = c.args in
    let s = a.self.now in
    step-charge (grid_in s) s.slots.now s.ready.slotted _ _ a.c (s.n - (a.c + 1)) (nth (weights_in a.t.now)) _ c.requires.0 c.gather.ensures.a c.gather.ensures.b c.requires.1 c.charge.ensures

pub enter_if-requires : goal.enter_if-requires
unfolding weighted_grid
enter_if-requires c =
    let a = c.args in
    let s = a.self.now in
    let r = s.ready in
    let l = c.loop-f in
    let some = c.loop-f-test.true in
    let lt = c.requires.0 in
    let inside : suc (l.f - 1) ≤ s.m = omega arith in
    let fits : a.c + suc (s.n - (a.c + 1)) ≤ s.n = omega arith in
    let g = grid_in s in
    let held = part-next g s.slots.now r.slotted a.c (s.n - (a.c + 1)) l.f (nth (weights_in l.t)) some l.invariant in (
      inside,
      record {
        room = λ start.
            part_room g s.slots.now (λ i h. r.weighed.most i) r.shallow r.matrix.rows r.matrix.columns a.c (s.n - (a.c + 1)) (l.f - 1) (nth (weights_in l.t)) fits inside
            (sym (r.spanned.begins (l.f - 1) inside) ∙ start) held;
      },
    )

pub loop-f-preserved : goal.loop-f-preserved
unfolding weighted_grid
loop-f-preserved c =
    let a = c.args in
    let s = a.self.now in
    let r = s.ready in
    let l = c.loop-f in
    let some = c.loop-f-test.true in
    let lt = c.requires.0 in
    let inside : suc (l.f - 1) ≤ s.m = omega arith in
    let fits : a.c + suc (s.n - (a.c + 1)) ≤ s.n = omega arith in
    let g = grid_in s in
    let held = part-next g s.slots.now r.slotted a.c (s.n - (a.c + 1)) l.f (nth (weights_in l.t)) some l.invariant in
    step-if g s.slots.now r.slotted s.spans.now r.spanned a.c (s.n - (a.c + 1)) (l.f - 1) (nth (weights_in l.t)) _ fits inside c.enter_if.ensures held

pub returns : goal.returns
unfolding weighted_grid
returns c =
    let a = c.args in
    let s = a.self.now in
    let l = c.loop-f in
    step-column (grid_in s) s.slots.now s.ready.slotted a.c l.f (nth (weights_in l.t)) (omega arith) c.requires.0 l.invariant
