-- Rule 12: the lowest column that the stretches of more than 8 fragments cover decides.
-- Assumes nothing.
use mathlib.Core.Path.{◌≡◌}
use Prim.Native.Nat.{ℕ, ◌<◌}
use lib.Dec.{T}
use Rattle.below.specs.Below.{isnt, ◌<?◌}
use Rattle.records.specs.Outcome.{Verdict, refused}
use Rattle.records.specs.Rules.{rule, decide}
use Rattle.below.proofs.BelowLaws.{isnt-<?, le-isnt}
use Rattle.records.proofs.RuleLaws.{places-kept, places-refused}
use Rattle.conflicts.specs.Grid.{Grid, coverage}
use Rattle.conflicts.specs.Services.{depth_rules}
use Rattle.conflicts.specs.Served.{NoneDeep, TooDeep}

module _ (g : Grid) where
  pub none_deep : ((c : ℕ) → c < g.n → T (isnt (8 <? coverage g c))) → NoneDeep g
  none_deep low = record { shallow = λ c h. isnt-<? 8 (coverage g c) (low c h) }

  module _ (v : Verdict) where
    pub deep-refused : {place : ℕ} → TooDeep g place → decide (depth_rules g) v ≡ refused 12 place
    unfolding depth_rules
    deep-refused {place} w = places-refused (λ c. rule 12 c (8 <? coverage g c)) v g.n place w

    pub deep-kept : NoneDeep g → decide (depth_rules g) v ≡ v
    unfolding depth_rules
    deep-kept w = places-kept _ v g.n (λ c h. le-isnt _ _ (w.shallow c h))
