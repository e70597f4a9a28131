-- `fragments::Fragments::suffixes` meets its contract. The loop's invariant: the table holds the weights of the last k fragments.
use mathlib.Core.Path.{◌≡◌, subst₂}
use Prim.Native.Nat.{ℕ}
use native.Mathlib.Omega.{arith}
use Rattle.fragment_pairs.specs.Algorithm.Pairs.{pairs}
use Rattle.fragment_removal.specs.Algorithm.Holding.{HoldsFragments}
use Rattle.fragment_removal.specs.Algorithm.Matrix.{grid_in}
use Rattle.fragment_removal.proofs.DeadLaws.{dead-none}
use Rattle.ranks.specs.Algorithm.Lent.{weights_in}
use Rattle.fragment_removal.proofs.fragments.Fragments.suffixes.Goals as goal

pub loop-k-init : goal.loop-k-init
loop-k-init c = record { within = omega arith; dead = dead-none _ _; held = c.requires }

pub extend-d-requires : goal.extend-d-requires
extend-d-requires c =
    let i = c.loop-k.invariant in
    (omega arith, i.within, i.dead, i.held)

pub loop-k-preserved : goal.loop-k-preserved
loop-k-preserved c = let e = c.extend-d.ensures in record { within = e.0; dead = e.1; held = e.2 }

pub returns : goal.returns
returns c =
    let l = c.loop-k in
    let a = c.args in
    let e : l.k ≡ a.self.now.m = omega arith in
    subst₂ (λ (k d : ℕ). HoldsFragments (grid_in a.self.now) k d (pairs (weights_in l.t))) e (let z = l.invariant.within in omega arith) l.invariant.held
