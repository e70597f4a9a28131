-- `least_cost_sides` meets its contract. The loop's invariant: the sides passed are written.
use mathlib.Core.Path.{refl, ap, ◌∙◌}
use mathlib.Core.List.{List}
use Prim.Native.Nat.{ℕ}
use native.Mathlib.Omega.{arith}
use borrow.Author.Rules.{rules}
use Rattle.below.specs.Below.{nth}
use Rattle.below.proofs.FillLaws.{filled-all}
use Rattle.matrix.specs.Algorithm.Matrix.{matrix_grid, weighted_grid}
use Rattle.ranks.proofs.TableLaws.{zeros-weights}
use Rattle.slots.proofs.GrantLaws.{zeros-at, none-granted, spanned-weighted, shallow-weighted, slotted-weighted}
use Rattle.corrections.proofs.StepLaws.{holds-start, holds-all, holds-least}
use Rattle.corrections.proofs.SideLaws.{least-sides}
use Rattle.corrections.proofs.least_cost_sides.Goals as goal

pub fill_slots-requires : goal.fill_slots-requires
unfolding matrix_grid
fill_slots-requires c =
    let a = c.args in
    (c.requires.0, c.requires.2, c.requires.3, none-granted (matrix_grid a.m a.n a.cells.now) c.requires.0.rows _ refl (λ i. zeros-at 128 i))

pub invariant_of-columns : goal.invariant_of-columns
invariant_of-columns c =
    let a = c.args in
    record {
      ready = record {
        matrix = c.requires.0;
        weighed = c.requires.1;
        shallow = shallow-weighted a.m a.n a.cells.now a.weights.now c.requires.3;
        spanned = spanned-weighted a.m a.n a.cells.now a.weights.now c.requires.2;
        slotted = slotted-weighted a.m a.n a.cells.now a.weights.now c.fill_slots.ensures;
      };
    }

pub eliminate-requires : goal.eliminate-requires
unfolding weighted_grid
eliminate-requires c =
    let a = c.args in
    holds-start (weighted_grid a.m a.n a.cells.now a.weights.now) _ (slotted-weighted a.m a.n a.cells.now a.weights.now c.fill_slots.ensures) _
    (λ mask. ap (λ (t : List ℕ). nth t mask) c.new-t.ensures.weights ∙ zeros-weights 256 256 256 mask)

pub returns : goal.returns
unfolding weighted_grid
returns c =
    let a = c.args in
    let g = weighted_grid a.m a.n a.cells.now a.weights.now in
    let slotted = slotted-weighted a.m a.n a.cells.now a.weights.now c.fill_slots.ensures in
    let r = c.get-r in
    let l = c.loop-p in
    let m = least-sides g c.requires.0.rows r.result (search rules) (search rules) (r.ensures ∙ holds-least g _ slotted _ (holds-all g _ slotted 0 _ refl c.eliminate.ensures)) in
    (filled-all _ _ l.p l.sides l.invariant (omega arith) ∙ m.0, m.1)
