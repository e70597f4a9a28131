-- Tables and fragments without grades get the verdict from before grades.
-- Assumes nothing.
use mathlib.Core.Path.{◌≡◌, refl, sym, ap, ◌∙◌}
use mathlib.Core.Bool.{Bool, true, false}
use mathlib.Core.List.{List, [], ◌∷◌, ◌++◌}
use Prim.Native.Nat.{ℕ, zero, suc, ◌+◌, ◌*◌, ◌<◌}
use native.Mathlib.Omega.{arith}
use lib.ListN.{length, get_or}
use Rattle.below.specs.Below.{◌=?◌, ◌<?◌, ◌≤?◌, ◌and◌, ◌or◌, isnt, any_below, tab, tab_from, concat}
use Rattle.below.proofs.BelowLaws.{is_false, T-isnt-isnt, eq-=?, le-isnt}
use Rattle.below.proofs.RowLaws.{tab-ext}
use Rattle.fields.specs.Record.{span_of, grade_of, cell_of}
use Rattle.fields.specs.Table.{fragments, record_bytes_at, start_at, tag_at}
use Rattle.fields.specs.Writing.{record_of, row_of, packed}
use Rattle.records.specs.Outcome.{Verdict}
use Rattle.records.specs.Rules.{Rule, rule, decide, is_out_of_frame, has_stray_bits, has_unknown_call, has_open_end, gapped, earlier_rules, span_rules, record_rules, gapless_rules, size_rules, table_rules, gapless_table_rules}
use Rattle.records.proofs.RuleLaws.{decide-none, decide-append}
use Rattle.records.proofs.KeptLaws.{rule-unbroken}
use Rattle.conflicts.specs.Grid.{grid_of}
use Rattle.conflicts.specs.Services.{length_rule, depth_rules, lent_stages, pack_size_rules, ungraded_rules, fragment_rules, unpack_rules, pack_rules, check_rules, conflict_counts_rules, removal_rules, correction_stages, correction_rules}
use Rattle.conflicts.specs.Ungraded.{stray_before, span_rules_before, table_rules_before, gapless_table_rules_before, pack_size_rules_before, Ungraded, UngradedAsBefore, PackUngradedAsBefore}
use Rattle.conflicts.proofs.AcceptedServices.{length-kept}

-- ---- the records

-- 5 of a record whose grade is 0
stray-same : (r : List ℕ) → grade_of r ≡ 0 → has_stray_bits r ≡ stray_before r
unfolding has_stray_bits stray_before ◌<?◌ ◌=?◌ isnt
stray-same r e =
    let cells : Bool = any_below 96 (λ k. span_of r ≤? k and isnt (cell_of r k =? 0)) in
    ap (λ (g : ℕ). 15 <? g or cells) e ∙ sym (ap (λ (g : ℕ). isnt (g =? 0) or cells) e)

span_same : (n : ℕ) (table : List ℕ) (i : ℕ) → grade_of (record_bytes_at table i) ≡ 0 → span_rules n table i ≡ span_rules_before n table i
unfolding span_rules span_rules_before
span_same n table i e =
    let r = record_bytes_at table i in
    ap (λ (b : Bool). rule 4 i (is_out_of_frame n r) ∷ rule 5 i b ∷ rule 6 i (has_unknown_call r) ∷ rule 7 i (has_open_end r) ∷ []) (stray-same r e)

module _ (n : ℕ) (table : List ℕ) (ungraded : Ungraded table) where
  records-same : table_rules n table ≡ table_rules_before n table
  unfolding table_rules record_rules table_rules_before
  records-same = ap concat (tab-ext (fragments table) _ _ (λ i h. ap (λ (rs : List Rule). rs ++ earlier_rules (start_at table) (tag_at table) i) (span_same n table i (ungraded i h))))

  gapless-same : gapless_table_rules n table ≡ gapless_table_rules_before n table
  unfolding gapless_table_rules gapless_rules gapless_table_rules_before
  gapless-same =
      ap concat (tab-ext (fragments table) _ _ (λ i h.
      ap (λ (rs : List Rule). rs ++ (rule 8 i (gapped (record_bytes_at table i)) ∷ earlier_rules (start_at table) (tag_at table) i)) (span_same n table i (ungraded i h))))

  -- the sizes, lengths and the records
  lengths-then : (lengths : List Rule) (v : Verdict) → decide (concat (size_rules n table ∷ lengths ∷ table_rules n table ∷ [])) v ≡ decide (concat (size_rules n table ∷ lengths ∷ table_rules_before n table ∷ [])) v
  lengths-then lengths v = ap (λ (rs : List Rule). decide (concat (size_rules n table ∷ lengths ∷ rs ∷ [])) v) records-same

-- ---- the services

-- stages alike from one on
stage-alike : (rs ss : List Rule) (stages others : List (List Rule)) → ((w : Verdict) → decide rs w ≡ decide ss w) → ((w : Verdict) → decide (concat stages) w ≡ decide (concat others) w) → (v : Verdict)
    → decide (concat (rs ∷ stages)) v ≡ decide (concat (ss ∷ others)) v
unfolding concat
stage-alike rs ss stages others first rest v = decide-append rs (concat stages) v ∙ first _ ∙ ap (decide ss) (rest v) ∙ sym (decide-append ss (concat others) v)

pub verdicts-as-before : UngradedAsBefore
unfolding unpack_rules check_rules conflict_counts_rules removal_rules correction_rules correction_stages
verdicts-as-before n table ungraded =
    let same = records-same n table ungraded in
    record {
      unpack = λ cells tags grades v exact.
          let lengths : List Rule = length_rule cells (fragments table * n) ∷ length_rule tags (fragments table) ∷ [] in
          stage-alike (size_rules n table) (size_rules n table) _ _ (λ w. refl)
          (stage-alike (lengths ++ (length_rule grades (fragments table) ∷ [])) lengths _ _
          (λ w. decide-append lengths (length_rule grades (fragments table) ∷ []) w ∙ ap (decide lengths) (length-kept grades _ w [] exact ∙ decide-none w))
          (λ w. ap (λ (rs : List Rule). decide (concat (rs ∷ [])) w) same)) v;
      check = λ answer v. lengths-then n table ungraded (length_rule answer _ ∷ []) v;
      counts = λ counts v. lengths-then n table ungraded (length_rule counts _ ∷ []) v;
      removals = λ answer work v. ap (λ (rs : List Rule). decide (concat (lent_stages n table answer work ++ (rs ∷ []))) v) (gapless-same n table ungraded);
      corrections = λ answer output work v.
          ap (λ (rs : List Rule). decide (concat (lent_stages n table answer work ++ ((length_rule output (32 * fragments table) ∷ []) ∷ rs ∷ []) ++ (depth_rules (grid_of n table) ∷ []))) v) same;
    }

-- ---- pack

or-none : (a b : Bool) → false ≡ b → a or b ≡ a
unfolding ◌or◌
or-none true b e = refl
or-none false b e = sym e

-- rows that each decide as others do
rows_alike : (f g : ℕ → List Rule) (v : Verdict) (m a : ℕ) → ((i : ℕ) → i < a + m → (w : Verdict) → decide (f i) w ≡ decide (g i) w)
    → decide (concat (tab_from a m f)) v ≡ decide (concat (tab_from a m g)) v
unfolding tab_from
rows_alike f g v zero a each = refl
rows_alike f g v (suc m) a each = stage-alike (f a) (g a) _ _ (each a (omega arith)) (λ w. rows_alike f g w m (suc a) (λ i h. each i (omega arith))) v

pub pack-as-before : PackUngradedAsBefore
unfolding pack_rules pack_size_rules pack_size_rules_before fragment_rules packed tab
pack-as-before n cells tags grades table exact zeros = record {
  verdict =
      stage-alike _ _ _ _
      (λ w. ap (λ (b : Bool). decide (rule 3 0 (128 <? n) ∷ rule 1 0 b ∷ rule 2 0 (128 <? length tags) ∷ []) w) (or-none _ _ (is_false _ (T-isnt-isnt _ (eq-=? _ _ exact)))))
      (stage-alike _ _ _ _ (λ w. refl) (λ w.
      rows_alike (fragment_rules n cells tags grades) (ungraded_rules n cells tags) w (length tags) 0 (λ i h u.
      let z = zeros i (omega arith) in rule-unbroken _ _ u (le-isnt _ _ (omega arith)))));
  records = ap concat (tab-ext (length tags) _ _ (λ i h. ap (λ (g : ℕ). record_of n (get_or tags i 0) g (row_of n cells i)) (zeros i h)));
}
