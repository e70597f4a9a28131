-- A table that keeps rules 1 to 7, 9 and 13 is accepted by check and conflict_counts on buffers of the right lengths, refused by S and F under 8 alone, and by C under 12 alone.
-- Assumes nothing.
use mathlib.Core.Bool.{Bool}
use mathlib.Core.Path.{◌≡◌, sym, ap, ◌∙◌}
use mathlib.Core.Logic.{◌⊎◌, inl, inr}
use mathlib.Core.List.Memᴰ
use mathlib.Core.List.{List, [], ◌∷◌}
use Prim.Native.Nat.{ℕ, ◌*◌, ◌≤◌, ◌<◌}
use lib.Dec.{T}
use lib.ListN.{length}
use Rattle.below.specs.Below.{isnt, Lowest, tab, ◌<?◌}
use Rattle.fields.specs.Table.{fragments, record_bytes_at}
use Rattle.records.specs.Outcome.{Verdict, accepted}
use Rattle.records.specs.Rules.{Rule, rule, decide, gapped, size_rules, table_rules, table_verdict}
use Rattle.below.proofs.BelowLaws.{eq-=?, T-isnt-isnt, le-isnt}
use Rattle.below.proofs.SearchLaws.{lowest-or-none}
use Rattle.records.proofs.RuleLaws.{decide-none, stage-kept, stage-last, accepted-count, unbroken, all-unbroken, places-kept, places-refused}
use Rattle.records.proofs.AcceptedLaws.{gaps-decide}
use Rattle.records.proofs.KeptLaws.{rule-unbroken}
use Rattle.conflicts.specs.Grid.{grid_of, coverage}
use Rattle.conflicts.specs.Answer.{answer_size}
use Rattle.conflicts.specs.Services.{work_rules, length_rule, depth_rules, check_rules, conflict_counts_rules, removal_rules, correction_rules, check_leaves, conflict_counts_leaves, snp_removal_leaves, fragment_removal_leaves, corrections_leaves, lent_stages, correction_stages}
use Rattle.conflicts.specs.Served.{Accepts, Refuses, Served}

-- ---- lent buffers

-- 11
pub length-kept : (output : List ℕ) (exact : ℕ) (v : Verdict) (rest : List Rule) → length output ≡ exact → decide (length_rule output exact ∷ rest) v ≡ decide rest v
unfolding length_rule
length-kept output exact v rest e = rule-unbroken _ rest v (T-isnt-isnt _ (eq-=? _ _ e))

-- 10
pub work-kept : (work : List ℕ) (v : Verdict) → 32768 ≤ length work → decide (work_rules work) v ≡ v
unfolding work_rules
work-kept work v h = rule-unbroken _ _ v (le-isnt _ _ h) ∙ decide-none v

-- rules that come to one rule for each place accept, or refuse by it at the lowest place that breaks it
by-places : (number n : ℕ) (breaks : ℕ → Bool) (rules : List Rule) (count : ℕ) → ((v : Verdict) → decide rules v ≡ decide (tab n (λ i. rule number i (breaks i))) v)
    → Accepts (decide rules (accepted count)) ⊎ Refuses number (Lowest n breaks) (decide rules (accepted count))
by-places number n breaks rules count to = go (lowest-or-none n breaks)
  where
    go : ((i : ℕ) × Lowest n breaks i) ⊎ ((j : ℕ) → j < n → T (isnt (breaks j))) → Accepts (decide rules (accepted count)) ⊎ Refuses number (Lowest n breaks) (decide rules (accepted count))
    go (inl w) = inr (record { place = w.0; is = to _ ∙ places-refused (λ i. rule number i (breaks i)) _ n w.0 w.1; at = w.1 })
    go (inr kept) = inl (record { count = count; is = to _ ∙ places-kept (λ i. rule number i (breaks i)) _ n kept })

module _ (n m : ℕ) (table : List ℕ) (e : table_verdict n table ≡ accepted m) where
  -- ---- the table

  count-is : fragments table ≡ m
  unfolding table_verdict
  count-is = accepted-count _ _ m e

  sizes-pass : (v : Verdict) → decide (size_rules n table) v ≡ v
  unfolding table_verdict
  sizes-pass v = all-unbroken (size_rules n table) v (λ r h. unbroken _ _ m e r (Memᴰ.append_left (table_rules n table) h))

  records-pass : (v : Verdict) → decide (table_rules n table) v ≡ v
  unfolding table_verdict
  records-pass v = all-unbroken (table_rules n table) v (λ r h. unbroken _ _ m e r (Memᴰ.append_right (size_rules n table) h))

  -- ---- the rules of the services

  -- conflict_counts'
  pub counts-kept : (counts : List ℕ) → length counts ≡ m * m → (v : Verdict) → decide (conflict_counts_rules n table counts) v ≡ v
  unfolding conflict_counts_rules
  counts-kept counts exact v =
      stage-kept _ _ 0 v 0 (sizes-pass _)
      ∙ stage-kept _ _ 0 v 0 (length-kept counts _ _ [] (exact ∙ ap (λ (k : ℕ). k * k) (sym count-is)) ∙ decide-none _)
      ∙ stage-last _ v
      ∙ records-pass v

  module _ (answer : List ℕ) (exact : length answer ≡ answer_size m n) where
    answer-kept : (rest : List Rule) (v : Verdict) → decide (length_rule answer (answer_size (fragments table) n) ∷ rest) v ≡ decide rest v
    answer-kept rest v = length-kept answer _ v rest (exact ∙ ap (λ (k : ℕ). answer_size k n) (sym count-is))

    -- check's
    pub check-kept : (v : Verdict) → decide (check_rules n table answer) v ≡ v
    unfolding check_rules
    check-kept v = stage-kept _ _ 0 v 0 (sizes-pass _) ∙ stage-kept _ _ 0 v 0 (answer-kept [] _ ∙ decide-none _) ∙ stage-last _ v ∙ records-pass v

    module _ (work : List ℕ) (enough : 32768 ≤ length work) where
      -- S's and F's, up to 8
      pub removal-kept : (v : Verdict) → decide (removal_rules n table answer work) v ≡ decide (tab (fragments table) (λ i. rule 8 i (gapped (record_bytes_at table i)))) v
      unfolding removal_rules lent_stages
      removal-kept v =
          stage-kept _ _ 0 v 0 (sizes-pass _)
          ∙ stage-kept _ _ 0 v 0 (work-kept work _ enough)
          ∙ stage-kept _ _ 0 v 0 (answer-kept [] _ ∙ decide-none _)
          ∙ stage-last _ v
          ∙ gaps-decide n table 0 0 (records-pass _) v

      -- C's, up to 12
      pub correction-kept : (output : List ℕ) → length output ≡ 32 * m → (v : Verdict) → decide (correction_rules n table answer output work) v ≡ decide (tab n (λ c. rule 12 c (8 <? coverage (grid_of n table) c))) v
      unfolding correction_rules correction_stages lent_stages depth_rules grid_of
      correction-kept output whole v =
          stage-kept _ _ 0 v 0 (sizes-pass _)
          ∙ stage-kept _ _ 0 v 0 (work-kept work _ enough)
          ∙ stage-kept _ _ 0 v 0 (answer-kept [] _ ∙ decide-none _)
          ∙ stage-kept _ _ 0 v 0 (length-kept output _ _ [] (whole ∙ ap (λ (k : ℕ). 32 * k) (sym count-is)) ∙ decide-none _)
          ∙ stage-kept _ _ 0 v 0 (records-pass _)
          ∙ stage-last _ v

  -- ---- the outcomes

  pub served : Served n m table
  unfolding check_leaves conflict_counts_leaves snp_removal_leaves fragment_removal_leaves corrections_leaves grid_of
  served = record {
    check = λ answer exact. record { count = _; is = check-kept answer exact _ };
    counts = λ counts exact. record { count = _; is = counts-kept counts exact _ };
    snps = λ answer work exact enough. by-places 8 (fragments table) _ _ _ (removal-kept answer exact work enough);
    fragments = λ answer work exact enough. by-places 8 (fragments table) _ _ _ (removal-kept answer exact work enough);
    corrections = λ answer output work exact whole enough. by-places 12 n _ _ _ (correction-kept answer exact work enough output whole);
  }
