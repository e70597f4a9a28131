-- The rules of S, F and C, stage by stage, and what is kept once all stages accept.
-- Assumes nothing.
use mathlib.Core.Path.{◌≡◌, refl, sym, ap, ◌∙◌}
use mathlib.Core.List.Memᴰ
use mathlib.Core.List.{List, [], ◌∷◌, ◌++◌}
use Prim.Native.Nat.{ℕ, ◌*◌, ◌≤◌, ◌<◌}
use native.Mathlib.Omega.{arith}
use lib.ListN.{length}
use Rattle.below.specs.Below.{concat}
use Rattle.fields.specs.Table.{fragments}
use Rattle.records.specs.Outcome.{Verdict, accepted, refused}
use Rattle.records.specs.Rules.{Rule, decide, size_rules, table_rules, gapless_table_rules}
use Rattle.below.proofs.SearchLaws.{<?-true}
use Rattle.below.proofs.BelowLaws.{is_true, =?-eq, ne-isnt, isnt-isnt, isnt-<?}
use Rattle.records.proofs.RuleLaws.{rule-broken, decide-accepted, decide-none, stage-kept, stage-refused, stage-last, stages-kept, stages-refused, accepted-count, accepted-stage, unbroken}
use Rattle.records.proofs.AcceptedLaws.{whole-records, sized-count}
use Rattle.records.proofs.TableLaws.{length_whole}
use Rattle.conflicts.specs.Answer.{answer_size}
use Rattle.conflicts.specs.Services.{length_rule, work_rules, removal_rules, lent_stages, correction_stages}
use Rattle.conflicts.proofs.AcceptedServices.{length-kept, work-kept}
use Rattle.records.specs.Algorithm.Kept.{SizesKept, RecordsKept, GaplessKept}

-- ---- a length that is not exact, and one that is

pub length-broken : (output : List ℕ) (exact : ℕ) (v : Verdict) (rest : List Rule) → (length output ≡ exact → ⊥) → decide (length_rule output exact ∷ rest) v ≡ refused 11 0
unfolding length_rule
length-broken output exact v rest f = rule-broken _ rest v (sym (is_true _ (ne-isnt _ _ f)))

pub exact-length : (output : List ℕ) (exact j k : ℕ) → decide (length_rule output exact ∷ []) (accepted j) ≡ accepted k → length output ≡ exact
unfolding length_rule
exact-length output exact j k e = =?-eq _ _ (isnt-isnt _ (unbroken _ j k e _ (Memᴰ.head refl)))

-- ---- the sizes and the lengths that S, F and C share

module _ (n : ℕ) (table answer work : List ℕ) where
  pub lent-sizes : (number place : ℕ) → decide (size_rules n table) (accepted (fragments table)) ≡ refused number place → decide (concat (lent_stages n table answer work)) (accepted (fragments table)) ≡ refused number place
  unfolding lent_stages
  lent-sizes number place e = stage-refused _ _ _ _ number place e

  module _ (m : ℕ) (sized : SizesKept n m table) where
    after-sizes : (v : Verdict) → decide (concat (lent_stages n table answer work)) v ≡ decide (concat (work_rules work ∷ (length_rule answer (answer_size (fragments table) n) ∷ []) ∷ [])) v
    unfolding lent_stages
    after-sizes v = stage-kept _ _ _ v m sized.kept

    pub lent-work : (v : Verdict) → length work < 32768 → decide (concat (lent_stages n table answer work)) v ≡ refused 10 0
    unfolding work_rules
    lent-work v h = after-sizes v ∙ stage-refused _ _ 0 v 10 0 (rule-broken _ _ _ (<?-true _ _ h))

    after-work : (v : Verdict) → 32768 ≤ length work → decide (concat (lent_stages n table answer work)) v ≡ decide (length_rule answer (answer_size (fragments table) n) ∷ []) v
    after-work v h = after-sizes v ∙ stage-kept _ _ 0 v 0 (work-kept work _ h) ∙ stage-last _ v

    size_is : answer_size (fragments table) n ≡ answer_size m n
    size_is = ap (λ (k : ℕ). answer_size k n) (sized-count sized)

    pub lent_length : (v : Verdict) → 32768 ≤ length work → (length answer ≡ answer_size m n → ⊥) → decide (concat (lent_stages n table answer work)) v ≡ refused 11 0
    lent_length v h f = after-work v h ∙ length-broken answer _ v [] (λ e. f (e ∙ size_is))

    pub lent-kept : 32768 ≤ length work → length answer ≡ answer_size m n → decide (concat (lent_stages n table answer work)) (accepted (fragments table)) ≡ accepted m
    lent-kept h e = after-work _ h ∙ length-kept answer _ _ [] (e ∙ sym size_is) ∙ decide-none _ ∙ ap accepted (sized-count sized)

  -- ---- what is kept once stages that begin so accept

  module _ (later : List (List Rule)) (m : ℕ) (e : decide (concat (lent_stages n table answer work ++ later)) (accepted (fragments table)) ≡ accepted m) where
    pub stages-sized : SizesKept n m table
    unfolding lent_stages
    stages-sized = record { kept = accepted-stage _ _ m e _ (Memᴰ.head refl) ∙ ap accepted (accepted-count _ _ m e) }

    pub stages-work : 32768 ≤ length work
    unfolding lent_stages work_rules
    stages-work = isnt-<? _ _ (unbroken (work_rules work) _ _ (accepted-stage _ _ m e _ (Memᴰ.tail (Memᴰ.head refl))) _ (Memᴰ.head refl))

    pub stages-answer : length answer ≡ answer_size m n
    unfolding lent_stages
    stages-answer =
        exact-length answer _ _ _ (accepted-stage _ _ m e _ (Memᴰ.tail (Memᴰ.tail (Memᴰ.head refl)))) ∙ ap (λ (k : ℕ). answer_size k n) (accepted-count _ _ m e)

  -- ---- the rules of S and F

  pub removal-lent : (number place : ℕ) → decide (concat (lent_stages n table answer work)) (accepted (fragments table)) ≡ refused number place
      → decide (removal_rules n table answer work) (accepted (fragments table)) ≡ refused number place
  unfolding removal_rules lent_stages
  removal-lent number place e = stages-refused (lent_stages n table answer work) (gapless_table_rules n table ∷ []) _ _ number place e

  pub removal-records : (m : ℕ) → decide (concat (lent_stages n table answer work)) (accepted (fragments table)) ≡ accepted m
      → decide (removal_rules n table answer work) (accepted (fragments table)) ≡ decide (gapless_table_rules n table) (accepted (fragments table))
  unfolding removal_rules lent_stages
  removal-records m e = stages-kept (lent_stages n table answer work) (gapless_table_rules n table ∷ []) _ _ m e ∙ stage-last _ _

  module _ (m : ℕ) (e : decide (removal_rules n table answer work) (accepted (fragments table)) ≡ accepted m) where
    pub removal-sized : SizesKept n m table
    unfolding removal_rules lent_stages
    removal-sized = stages-sized (gapless_table_rules n table ∷ []) m e

    pub removal-work : 32768 ≤ length work
    unfolding removal_rules lent_stages
    removal-work = stages-work (gapless_table_rules n table ∷ []) m e

    pub removal-answer : length answer ≡ answer_size m n
    unfolding removal_rules lent_stages
    removal-answer = stages-answer (gapless_table_rules n table ∷ []) m e

    pub removal-kept : GaplessKept n table
    unfolding removal_rules lent_stages
    removal-kept = record { count = _; kept = accepted-stage _ _ m e (gapless_table_rules n table) (Memᴰ.tail (Memᴰ.tail (Memᴰ.tail (Memᴰ.head refl)))) }

    -- … with the number of fragments that the call accepts
    pub gapless-accepted : decide (gapless_table_rules n table) (accepted (fragments table)) ≡ accepted m
    gapless-accepted = decide-accepted _ _ _ _ removal-kept.kept ∙ ap accepted (sized-count removal-sized)

-- ---- the rules of C but 12

module _ (n : ℕ) (table answer output work : List ℕ) where
  abbrev later : List (List Rule)
  later = (length_rule output (32 * fragments table) ∷ []) ∷ table_rules n table ∷ []

  pub correction-lent : (number place : ℕ) → decide (concat (lent_stages n table answer work)) (accepted (fragments table)) ≡ refused number place
      → decide (concat (correction_stages n table answer output work)) (accepted (fragments table)) ≡ refused number place
  unfolding correction_stages
  correction-lent number place e = stages-refused (lent_stages n table answer work) later _ _ number place e

  module _ (m : ℕ) (lent : decide (concat (lent_stages n table answer work)) (accepted (fragments table)) ≡ accepted m) where
    whole : length table ≡ 32 * fragments table
    unfolding lent_stages
    whole = let s = length_whole table (whole-records n table _ _ (accepted-stage _ _ m lent (size_rules n table) (Memᴰ.head refl))) in omega arith

    after-lent : (v : Verdict) → decide (concat (correction_stages n table answer output work)) v ≡ decide (concat later) v
    unfolding correction_stages
    after-lent v = stages-kept (lent_stages n table answer work) later _ v m lent

    pub correction-length : (length output ≡ length table → ⊥) → decide (concat (correction_stages n table answer output work)) (accepted (fragments table)) ≡ refused 11 0
    correction-length f = after-lent _ ∙ stage-refused _ _ 0 _ 11 0 (length-broken output _ _ [] (λ e. f (e ∙ sym whole)))

    pub correction-records : length output ≡ length table
        → decide (concat (correction_stages n table answer output work)) (accepted (fragments table)) ≡ decide (table_rules n table) (accepted (fragments table))
    correction-records e = after-lent _ ∙ stage-kept _ _ 0 _ 0 (length-kept output _ _ [] (e ∙ whole) ∙ decide-none _) ∙ stage-last _ _

  module _ (m : ℕ) (e : decide (concat (correction_stages n table answer output work)) (accepted (fragments table)) ≡ accepted m) where
    pub correction-sized : SizesKept n m table
    unfolding correction_stages
    correction-sized = stages-sized n table answer work later m e

    pub correction-answer : length answer ≡ answer_size m n
    unfolding correction_stages
    correction-answer = stages-answer n table answer work later m e

    pub correction-output : length output ≡ 32 * m
    unfolding correction_stages lent_stages
    correction-output =
        exact-length output _ _ _ (accepted-stage _ _ m e _ (Memᴰ.tail (Memᴰ.tail (Memᴰ.tail (Memᴰ.head refl))))) ∙ ap (λ (k : ℕ). 32 * k) (accepted-count _ _ m e)

    pub correction-kept : RecordsKept n table
    unfolding correction_stages lent_stages
    correction-kept = record { count = _; kept = accepted-stage _ _ m e (table_rules n table) (Memᴰ.tail (Memᴰ.tail (Memᴰ.tail (Memᴰ.tail (Memᴰ.head refl))))) }
