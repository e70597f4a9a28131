-- `Fragment::put_apart` meets its contract. A call's `.type_inv` says that the fields of the Rank it hands back fit; `.1.1.1.0.1` is its higher word, `.1.1.1.1.0.1` its lower.
-- Assumes nothing.
use Rattle.std.specs.Prelude.{if◌then◌else◌}
use mathlib.Core.Path.{refl, ap}
use mathlib.Core.Bool.{true, false}
use Prim.Native.Nat.{ℕ, ◌+◌}
use borrow.Author.Rules.{rules}
use Rattle.below.specs.Below.{◌<?◌, nth}
use Rattle.ranks.specs.Algorithm.Reading.{value}
use Rattle.ranks.specs.Algorithm.Lent.{weights_in}
use Rattle.fragment_pairs.proofs.PairLaws.{sum_fits, count_fits, chosen-weight}
use Rattle.fragment_pairs.proofs.fragment.Fragment.put_apart.Goals as goal

pub greater_joined-r-requires : goal.greater_joined-r-requires
greater_joined-r-requires c =
    let get = c.get in
    let f = c.requires.2 in
    (c.requires.1, sum_fits c.args.self.now.own get.result f.others f.few f.fits get.type_inv.1.1.1.0.1 get.type_inv.1.1.1.1.0.1 get.ensures f.rest_small)

pub put-requires : goal.put-requires
put-requires c =
    let r = c.greater_joined-r in
    let get = c.get in
    let a = c.args in
    let f = a.self.now in
    let reaches = nth f.reaches.now in
    let moves = reaches a.l <? reaches (f.i + 1) in
    let two = ap (λ (x : ℕ). if moves then value a.far else value f.own + x) get.ensures in
    let is = chosen-weight false true true (value get.result) {x = value f.own + nth (weights_in a.t.now) a.j} refl r.ensures refl refl two get.ensures in
    (search rules, (c.requires.0, count_fits f.own r.result false true moves c.requires.2 r.type_inv.1.1.1.0.1 r.type_inv.1.1.1.1.0.1 is))
