-- What an accepted table keeps: the sizes, and its rules in each record.
-- Assumes nothing.
use mathlib.Core.Path.{◌≡◌, refl, ap, ◌∙◌}
use mathlib.Core.Logic.{◌⊎◌, inl, inr}
use mathlib.Core.List.Memᴰ
use mathlib.Core.List.{List, [], ◌∷◌, Memᴰ}
use Prim.Native.Nat.{ℕ, ◌%◌, ◌≤◌, ◌<◌}
use native.Mathlib.Omega.{arith}
use lib.Dec.{T}
use lib.ListN.{length}
use Rattle.below.specs.Below.{isnt, tab}
use Rattle.fields.specs.Table.{fragments, record_bytes_at, start_at, tag_at}
use Rattle.records.specs.Outcome.{Verdict, accepted}
use Rattle.records.specs.Algorithm.Kept.{SizesKept, RecordsKept, GaplessKept}
use Rattle.records.specs.Rules.{Rule, rule, decide, gapped, precedes, earlier_rules, span_rules, record_rules, gapless_rules, table_rules, gapless_table_rules, size_rules}
use Rattle.below.proofs.BelowLaws.{isnt-isnt, isnt-<?, =?-eq}
use Rattle.below.proofs.MemberLaws.{concat-of, tab-of}
use Rattle.records.proofs.RuleLaws.{NoneBroken, decide-append, accepted-count, unbroken, all-unbroken, rows-unbroken, rows-single}
use Rattle.records.proofs.OrderLaws.{records-rise}
use Rattle.records.proofs.PackLaws.{Sound}

module _ (n : ℕ) (table : List ℕ) (j k : ℕ) (e : decide (size_rules n table) (accepted j) ≡ accepted k) where
  -- 3
  pub few-columns : n ≤ 128
  unfolding size_rules
  few-columns = isnt-<? 128 n (unbroken (size_rules n table) j k e _ (Memᴰ.head refl))

  -- 1
  pub whole-records : length table % 32 ≡ 0
  unfolding size_rules
  whole-records = =?-eq _ _ (isnt-isnt _ (unbroken (size_rules n table) j k e _ (Memᴰ.tail (Memᴰ.head refl))))

  -- 2
  pub few-fragments : fragments table ≤ 128
  unfolding size_rules
  few-fragments = isnt-<? 128 _ (unbroken (size_rules n table) j k e _ (Memᴰ.tail (Memᴰ.tail (Memᴰ.head refl))))

module _ (n : ℕ) (table : List ℕ) (j k : ℕ) (e : decide (table_rules n table) (accepted j) ≡ accepted k) (i : ℕ) (h : i < fragments table) where
  kept : NoneBroken (record_rules n table i)
  unfolding table_rules
  kept r m = unbroken (table_rules n table) j k e r (concat-of m (tab-of (record_rules n table) (fragments table) i h))

  -- 4 to 7
  pub accepted-sound : Sound n (record_bytes_at table i)
  unfolding record_rules span_rules
  accepted-sound = record {
    frame = kept _ (Memᴰ.head refl);
    bits = kept _ (Memᴰ.tail (Memᴰ.head refl));
    codes = kept _ (Memᴰ.tail (Memᴰ.tail (Memᴰ.head refl)));
    ends = kept _ (Memᴰ.tail (Memᴰ.tail (Memᴰ.tail (Memᴰ.head refl))));
  }

  -- 9 and 13
  pub accepted-earlier : NoneBroken (earlier_rules (start_at table) (tag_at table) i)
  unfolding record_rules
  accepted-earlier r m = kept r (Memᴰ.append_right (span_rules n table i) m)

  -- by 4 to 9 and 13, 8 alone can be broken
  gap-alone : (v : Verdict) → decide (gapless_rules n table i) v ≡ decide (rule 8 i (gapped (record_bytes_at table i)) ∷ []) v
  unfolding gapless_rules record_rules
  gap-alone v =
      decide-append (span_rules n table i) _ v
      ∙ all-unbroken (span_rules n table i) _ (λ r m. kept r (Memᴰ.append_left _ m))
      ∙ decide-append (rule 8 i (gapped (record_bytes_at table i)) ∷ []) _ v
      ∙ ap (decide (rule 8 i (gapped (record_bytes_at table i)) ∷ [])) (all-unbroken _ v accepted-earlier)

-- each record of an accepted table comes before every later one
pub accepted-rise : (n : ℕ) (table : List ℕ) (j k : ℕ) → decide (table_rules n table) (accepted j) ≡ accepted k
    → (p q : ℕ) → p < q → q < fragments table → T (precedes (start_at table p) (tag_at table p) (start_at table q) (tag_at table q))
accepted-rise n table j k e = records-rise (fragments table) (start_at table) (tag_at table) (accepted-earlier n table j k e)

-- records that keep the other rules are decided by 8 alone
pub gaps-decide : (n : ℕ) (table : List ℕ) (j k : ℕ) → decide (table_rules n table) (accepted j) ≡ accepted k → (v : Verdict)
    → decide (gapless_table_rules n table) v ≡ decide (tab (fragments table) (λ i. rule 8 i (gapped (record_bytes_at table i)))) v
unfolding gapless_table_rules
gaps-decide n table j k e v = rows-single (gapless_rules n table) _ (fragments table) v (λ i h. gap-alone n table j k e i h)

-- records that keep 8 too: they keep the other rules, and none is gapped
module _ {n : ℕ} {table : List ℕ} (kept : GaplessKept n table) where
  rules-kept : (i : ℕ) → i < fragments table → NoneBroken (gapless_rules n table i)
  unfolding gapless_table_rules
  rules-kept i h r m = unbroken (gapless_table_rules n table) _ _ kept.kept r (concat-of m (tab-of (gapless_rules n table) (fragments table) i h))

  pub gapless-records : RecordsKept n table
  unfolding table_rules record_rules gapless_rules
  gapless-records = record { count = fragments table; kept = rows-unbroken (record_rules n table) (fragments table) _ (λ i h r m. rules-kept i h r (go i r (Memᴰ.append_cases (span_rules n table i) m))) }
    where
      go : (i : ℕ) (r : Rule) → Memᴰ r (span_rules n table i) ⊎ Memᴰ r (earlier_rules (start_at table) (tag_at table) i) → Memᴰ r (gapless_rules n table i)
      go i r (inl m) = Memᴰ.append_left _ m
      go i r (inr m) = Memᴰ.append_right (span_rules n table i) (Memᴰ.tail m)

  pub accepted-gapless : (i : ℕ) → i < fragments table → T (isnt (gapped (record_bytes_at table i)))
  unfolding gapless_rules
  accepted-gapless i h = rules-kept i h _ (Memᴰ.append_right (span_rules n table i) (Memᴰ.head refl))

module _ {n m : ℕ} {table : List ℕ} (sized : SizesKept n m table) where
  pub sized-count : fragments table ≡ m
  sized-count = accepted-count _ _ m sized.kept

  pub sized-n : n ≤ 128
  sized-n = few-columns n table _ m sized.kept

  pub sized-m : m ≤ 128
  sized-m = let e = sized-count in let h = few-fragments n table _ m sized.kept in omega arith
