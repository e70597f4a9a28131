-- `Fragment::weight_at` meets its contract. A call's `.type_inv` says that the fields of the Rank it hands back fit; `.1.1.1.0.1` is its higher word, `.1.1.1.1.0.1` its lower.
-- Assumes nothing.
use Rattle.std.specs.Prelude.{if◌then◌else◌}
use mathlib.Core.Path.{◌≡◌, refl, ap, ◌∙◌}
use mathlib.Core.Bool.{true}
use Prim.Native.Nat.{ℕ, ◌+◌, max}
use Rattle.below.specs.Below.{◌<?◌, nth}
use Rattle.conflicts.specs.Choice.{marked}
use Rattle.ranks.specs.Algorithm.Reading.{value}
use Rattle.fragment_pairs.proofs.PairLaws.{sum_fits, count_fits, chosen-weight, taken-weight, left-weight}
use Rattle.fragment_pairs.proofs.fragment.Fragment.weight_at.Goals as goal
use Rattle.fragment_pairs.proofs.fragment.Fragment.weight_at.Goals.{then-joins, else-joins}

pub greater_joined-best-requires : goal.greater_joined-best-requires
greater_joined-best-requires c =
    let get = c.get-here in
    let f = c.requires.3 in
    (c.requires.2, sum_fits c.args.self.now.own get.result f.others f.few f.fits get.type_inv.1.1.1.0.1 get.type_inv.1.1.1.1.0.1 get.ensures f.rest_small)

pub plus-requires : goal.plus-requires
plus-requires c =
    let get = c.get in
    let f = c.requires.3 in
    sum_fits c.args.self.now.own get.result f.others f.few f.fits get.type_inv.1.1.1.0.1 get.type_inv.1.1.1.1.0.1 get.ensures f.one_small

pub returns : goal.returns
returns c =
    let joins = c.joins in
    let get = c.get-here in
    let a = c.args in
    let f = a.self.now in
    let r = nth f.reaches.now in
    let b = marked f.agrees.now a.l in
    let moves = r a.l <? r (f.i + 1) in
    let one = c.plus.ensures ∙ ap (λ (x : ℕ). value f.own + x) c.get.ensures in
    let two = ap (λ (x : ℕ). if moves then value a.far else value f.own + x) get.ensures in
    let best : value c.if-joins.best ≡ (if joins.result then max (value get.result) (if moves then value a.far else value f.own + value get.result) else value get.result) =
    elim c.if-joins.branch [
      | then-joins w ↦ taken-weight (value get.result) w.if-joins.true (ap value w.best-is ∙ w.greater_joined-best.ensures) refl
      | else-joins w ↦ ap value w.best-is ∙ left-weight (value get.result) _ w.if-joins.false
    ] in
    let is = chosen-weight true joins.result b (value get.result) joins.ensures best c.greater.ensures one two get.ensures in
    (is, count_fits f.own c.greater.result true b moves c.requires.3 c.greater.type_inv.1.1.1.0.1 c.greater.type_inv.1.1.1.1.0.1 is)
