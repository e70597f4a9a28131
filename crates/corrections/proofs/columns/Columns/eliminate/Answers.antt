-- `columns::Columns::eliminate` meets its contract. The loop's invariant: the table holds the least weights from column c on.
use mathlib.Core.Path.{◌≡◌, subst}
use Prim.Native.Nat.{ℕ, ◌+◌, ◌-◌}
use native.Mathlib.Omega.{arith}
use Rattle.below.specs.Below.{nth}
use Rattle.ranks.specs.Algorithm.Lent.{weights_in}
use Rattle.corrections.specs.Algorithm.Elimination.{HoldsFrom}
use Rattle.corrections.proofs.columns.Columns.eliminate.Goals as goal

pub column-requires : goal.column-requires
column-requires c =
    let l = c.loop-c in
    let some = c.loop-c-test.true in
    let e : l.c ≡ l.c - 1 + 1 = omega arith in
    (omega arith, subst (λ (x : ℕ). HoldsFrom c.args.self.now x (nth (weights_in l.t))) e l.invariant)

pub loop-c-preserved : goal.loop-c-preserved
loop-c-preserved c = c.column.ensures

pub returns : goal.returns
returns c =
    let l = c.loop-c in
    let e : l.c ≡ 0 = omega arith in
    subst (λ (x : ℕ). HoldsFrom c.args.self.now x (nth (weights_in l.t))) e l.invariant
