-- Sizes, records and rows that keep their rules are accepted.
-- Assumes nothing.
use mathlib.Core.Path.{◌≡◌, sym, ◌∙◌}
use mathlib.Core.List.{List, ◌∷◌}
use Prim.Native.Nat.{ℕ, ◌%◌, ◌≤◌, ◌<◌}
use lib.Dec.{T}
use lib.ListN.{length}
use Rattle.below.specs.Below.{isnt, tab, concat}
use Rattle.fields.specs.Table.{fragments, record_bytes_at, start_at, tag_at}
use Rattle.records.specs.Outcome.{Verdict, accepted}
use Rattle.records.specs.Rules.{Rule, decide, earlier_rules, span_rules, record_rules, size_rules}
use Rattle.below.proofs.BelowLaws.{is_false, T-isnt-isnt, eq-=?, le-isnt}
use Rattle.records.proofs.RuleLaws.{NoneBroken, rule-kept, decide-none, unbroken, all-unbroken, rows-unbroken}
use Rattle.records.proofs.PackLaws.{Sound}

-- a rule that is not broken is passed over
pub rule-unbroken : (r : Rule) (rs : List Rule) (v : Verdict) → T (isnt r.broken) → decide (r ∷ rs) v ≡ decide rs v
rule-unbroken r rs v t = rule-kept r rs v (sym (is_false _ t))

-- rows of rules that each accept leave the verdict
pub rows-kept : (f : ℕ → List Rule) (m : ℕ) (v : Verdict) → ((i : ℕ) → i < m → decide (f i) (accepted 0) ≡ accepted 0) → decide (concat (tab m f)) v ≡ v
rows-kept f m v kept = rows-unbroken f m v (λ i h. unbroken (f i) 0 0 (kept i h))

-- 3, 1 and 2
pub sizes-kept : (n : ℕ) (table : List ℕ) (v : Verdict) → n ≤ 128 → length table % 32 ≡ 0 → fragments table ≤ 128 → decide (size_rules n table) v ≡ v
unfolding size_rules
sizes-kept n table v wide whole few =
    rule-unbroken _ _ v (le-isnt _ _ wide) ∙ rule-unbroken _ _ v (T-isnt-isnt _ (eq-=? _ _ whole)) ∙ rule-unbroken _ _ v (le-isnt _ _ few) ∙ decide-none v

-- 4 to 7, 9 and 13
pub record-kept : (n : ℕ) (table : List ℕ) (i : ℕ) (v : Verdict) → Sound n (record_bytes_at table i) → NoneBroken (earlier_rules (start_at table) (tag_at table) i) → decide (record_rules n table i) v ≡ v
unfolding record_rules span_rules
record-kept n table i v sound earlier =
    rule-unbroken _ _ v sound.frame
    ∙ rule-unbroken _ _ v sound.bits
    ∙ rule-unbroken _ _ v sound.codes
    ∙ rule-unbroken _ _ v sound.ends
    ∙ all-unbroken _ v earlier
