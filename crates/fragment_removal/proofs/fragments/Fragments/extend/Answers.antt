-- `fragments::Fragments::extend` meets its contract. A call's `.type_inv` says that the fields of the Rank it hands back fit; `.1.1.1.0.1` is its higher word, `.1.1.1.1.0.1` its lower.
-- Assumes nothing.
use mathlib.Core.Path.{refl, ◌∙◌}
use Prim.Native.Nat.{◌-◌, ◌+◌}
use native.Mathlib.Omega.{arith}
use borrow.Author.Rules.{rules}
use Rattle.masks.specs.Algorithm.Masks.{words_grid}
use Rattle.ranks.specs.Algorithm.Reading.{value}
use Rattle.ranks.specs.Algorithm.Lent.{weights_in}
use Rattle.below.specs.Below.{nth}
use Rattle.fragment_states.specs.Algorithm.Fragments.{words_join}
use Rattle.fragment_states.proofs.ReadLaws.{words-join}
use Rattle.fragment_pairs.specs.Algorithm.Pairs.{pairs}
use Rattle.fragment_removal.specs.Algorithm.Matrix.{grid_in}
use Rattle.fragment_removal.proofs.HoldingLaws.{removal-of, between-marks, holds-room, holds_more}
use Rattle.fragment_removal.proofs.DeadLaws.{holds-born, dead-more}
use Rattle.fragment_removal.proofs.fragments.Fragments.extend.Goals as goal

pub last_dead-dead-requires : goal.last_dead-dead-requires
last_dead-dead-requires c =
    omega (arith, c.requires.0, c.args.self.now.prepared.few)

pub births-requires : goal.births-requires
births-requires c =
    let few = c.args.self.now.prepared.few in
    let dead = c.last_dead-dead.ensures.0 in (omega arith, omega arith, omega arith)

pub fill_agreements-requires : goal.fill_agreements-requires
fill_agreements-requires c = let few = c.args.self.now.prepared.few in (omega arith, search rules)

pub layer-requires : goal.layer-requires
unfolding words_grid
layer-requires c =
    let own = c.single in
    let births = c.births in
    let dead = c.last_dead-dead in
    let a = c.args in
    let s = a.self.now in
    let p = s.prepared in
    let g = grid_in s in
    let i = s.m - 1 - a.k in
    let few = p.few in
    let held = holds-born g a.k a.d (omega arith) c.requires.2 (pairs (weights_in a.t.now)) _ dead.result (i + 1) c.requires.1 (omega arith) c.requires.3 births.ensures.weights in (
      dead.ensures.1,
      holds-room g a.k i dead.result _ c.requires.0 refl held few own.result own.type_inv.1.1.1.0.1 own.type_inv.1.1.1.1.0.1 (removal-of i own.ensures),
    )

pub returns : goal.returns
unfolding words_grid
returns c =
    let layer = c.layer in
    let own = c.single in
    let fill-agreements = c.fill_agreements in
    let births = c.births in
    let dead = c.last_dead-dead in
    let a = c.args in
    let s = a.self.now in
    let p = s.prepared in
    let g = grid_in s in
    let i = s.m - 1 - a.k in
    let held = holds-born g a.k a.d (omega arith) c.requires.2 (pairs (weights_in a.t.now)) _ dead.result (i + 1) c.requires.1 (omega arith) c.requires.3 births.ensures.weights in (
      let h = dead.ensures.1 in omega arith,
      dead-more g a.k a.d (omega arith) c.requires.2 s.reaches.now dead.result i _ dead.ensures.0 c.requires.0 refl p.reaching.begins dead.ensures.1 refl dead.ensures.2,
      holds_more g a.k i dead.result _ c.requires.0 refl held _ (nth s.reaches.now) (value own.result) _
          (λ q lo h. between-marks (λ q. words_join s.masks.now q i) _ _ _ fill-agreements.ensures q lo h ∙ words-join g s.masks.now q i p.masks (omega arith) (omega (arith, c.requires.0)))
          p.reaching.begins (removal-of i own.ensures) layer.ensures.weights,
    )
