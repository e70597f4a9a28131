-- Rule 12's column by where the fragments start and end, and what it says of the table.
-- Assumes nothing.
use mathlib.Core.Path.{◌≡◌, refl, sym, ap, ◌∙◌}
use mathlib.Core.Bool.{Bool, true, false}
use mathlib.Core.List.{List}
use Prim.Native.Nat.{ℕ, zero, suc, ◌+◌, ◌≤◌, ◌<◌}
use native.Mathlib.Omega.{arith}
use lib.ListN.{length, take}
use Rattle.std.specs.Prelude.{count_by}
use Rattle.std.proofs.Common.{add-one}
use Rattle.std.proofs.lemmas.List.Sums.{count_by_more_yes, count_by_more_no}
use Rattle.below.specs.Below.{count_below, ◌<?◌, ◌and◌}
use Rattle.below.proofs.BelowLaws.{count-ext, count_none, count_next}
use Rattle.below.proofs.SearchLaws.{<?-true, first-lowest, first_past}
use Rattle.conflicts.specs.Grid.{Grid, coverage}
use Rattle.conflicts.specs.Served.{NoneDeep, TooDeep}
use Rattle.conflicts.proofs.DeepLaws.{none_deep}
use Rattle.slots.specs.Algorithm.Columns.{covers, first_deep_of}
use Rattle.slots.specs.declared.spans.Span.{Span}
use Rattle.slots.specs.Algorithm.Spans.{span_at, has_column, Spanned, covered_by, deep_by}
use Rattle.slots.proofs.CoverLaws.{coverage-is}
use Rattle.slots.proofs.GrantLaws.{first-same}

-- the spans that have a column, counted along the list
pub counted-spans : (spans : List Span) (c m : ℕ) → m ≤ length spans → count_by (λ span. has_column span c) (take m spans) ≡ covered_by m spans c
unfolding covered_by
counted-spans spans c zero h = count_none _
counted-spans spans c (suc m) h = rw (← add-one m) (step (counted-spans spans c m (omega arith)) (has_column (span_at spans m) c) refl)
  where
    step : count_by (λ span. has_column span c) (take m spans) ≡ count_below m (λ i. has_column (span_at spans i) c)
        → (b : Bool) → has_column (span_at spans m) c ≡ b → count_by (λ span. has_column span c) (take (m + 1) spans) ≡ count_below (m + 1) (λ i. has_column (span_at spans i) c)
    step before true e = count_by_more_yes _ spans m _ (omega arith) e ∙ rw (before, count_next m (λ i. has_column (span_at spans i) c), e) refl
    step before false e = count_by_more_no _ spans m _ (omega arith) e ∙ rw (before, count_next m (λ i. has_column (span_at spans i) c), e) (omega arith)

module _ (g : Grid) where
  module _ (spans : List Span) (sp : Spanned g spans) where
    -- what a span has is what its fragment covers
    pub covers-is : (c i : ℕ) → i < g.m → has_column (span_at spans i) c ≡ covers g c i
    unfolding has_column covers ◌and◌
    covers-is c i lt = rw (sp.begins i lt, sp.stops i lt, <?-true i g.m lt)

    pub deep_is : deep_by g.m g.n spans ≡ first_deep_of g
    unfolding first_deep_of deep_by covered_by
    deep_is = first-same g.n _ _ (λ c hc. ap (λ (k : ℕ). 8 <? k) (count-ext g.m _ _ (λ i hi. covers-is c i hi) ∙ sym (coverage-is g c hc)))

  pub first-deep : first_deep_of g < g.n → TooDeep g (first_deep_of g)
  unfolding first_deep_of
  first-deep lt = first-lowest g.n _ lt

  pub first-none : g.n ≤ first_deep_of g → NoneDeep g
  unfolding first_deep_of
  first-none past = none_deep g (first_past g.n (λ c. 8 <? coverage g c) past)
