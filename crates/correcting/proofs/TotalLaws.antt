-- C's totals: no side list of a table that C accepts costs more than 30,720, and C returns no more.
-- Assumes nothing.
use mathlib.Core.Path.{◌≡◌, refl, sym, subst, ◌∙◌}
use mathlib.Core.List.Memᴰ
use mathlib.Core.List.{List}
use Prim.Native.Nat.{ℕ, ◌≤◌}
use native.Mathlib.Decide.{dec_lt}
use native.Mathlib.Omega.{arith}
use Rattle.records.specs.Outcome.{Verdict, accepted, refused}
use Rattle.records.specs.Rules.{size_rules}
use Rattle.records.proofs.RuleLaws.{accepted-stage}
use Rattle.records.proofs.AcceptedLaws.{few-columns}
use Rattle.fields.proofs.GradeLaws.{weight-range}
use Rattle.conflicts.specs.Grid.{grid_of}
use Rattle.conflicts.specs.Corrections.{cost, least_cost_sides_of}
use Rattle.conflicts.specs.Served.{NoneDeep}
use Rattle.conflicts.specs.Services.{depth_rules, lent_stages, correction_stages, correction_rules, corrections_leaves}
use Rattle.conflicts.proofs.DeepLaws.{deep-refused}
use Rattle.conflicts.proofs.CorrectionsMinimality.{corrections-number}
use Rattle.slots.specs.Algorithm.Columns.{first_deep_of}
use Rattle.slots.proofs.CoverLaws.{cost-within}
use Rattle.slots.proofs.DepthLaws.{first-deep, first-none}

-- a refusal is no acceptance
apart : {j number place : ℕ} → refused number place ≡ accepted j → ⊥
apart e = subst (λ (v : Verdict). elim v as (λ x. Type 0) [ accepted k ↦ ⊥ | refused k p ↦ Unit {0} ]) e tt

module _ (n : ℕ) (table answer output work : List ℕ) (k : ℕ) (e : (corrections_leaves n table answer output work).outcome ≡ accepted k) where
  none_deep : NoneDeep (grid_of n table)
  unfolding corrections_leaves correction_rules correction_stages lent_stages
  none_deep =
      let kept = accepted-stage _ _ k e (depth_rules (grid_of n table))
      (Memᴰ.tail (Memᴰ.tail (Memᴰ.tail (Memᴰ.tail (Memᴰ.tail (Memᴰ.head refl)))))) in
      elim (dec_lt (first_deep_of (grid_of n table)) (grid_of n table).n) [
        | yes deep ↦ absurd (apart (sym (deep-refused (grid_of n table) _ (first-deep (grid_of n table) deep)) ∙ kept))
        | no past ↦ first-none (grid_of n table) (omega arith)
      ]

  narrow : n ≤ 128
  unfolding corrections_leaves correction_rules correction_stages lent_stages
  narrow = few-columns n table _ _ (accepted-stage _ _ k e (size_rules n table) (Memᴰ.head refl))

  -- "8 × 60 / 2 × 128"
  pub costs-within : (sides : List ℕ) → cost 2 (grid_of n table) sides ≤ 30720
  unfolding grid_of
  costs-within = cost-within (grid_of n table) (λ i h. (weight-range _).1) none_deep narrow

  pub total-within : k ≤ 30720
  total-within = subst (λ (x : ℕ). x ≤ 30720) (corrections-number n table answer output work k e) (costs-within (least_cost_sides_of 2 (grid_of n table)))
