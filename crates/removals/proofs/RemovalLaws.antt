-- What S and F return and leave, for any count and answer.
-- Assumes nothing.
use mathlib.Core.Path.{◌≡◌, sym, ap, ◌∙◌}
use mathlib.Core.List.{List}
use Prim.Native.Nat.{ℕ}
use lib.ListN.{length, replicate}
use Rattle.fields.specs.Table.{fragments}
use Rattle.records.specs.Outcome.{Verdict, accepted, refused}
use Rattle.records.specs.Rules.{decide}
use Rattle.records.proofs.RuleLaws.{decide-accepted, decide-refused}
use Rattle.conflicts.specs.Services.{written, work_after, removal_rules}

-- what a removal's contract says: its outcome, its work and its answer, in this order
abbrev pub Left : Verdict → List ℕ → List ℕ → Verdict → List ℕ → List ℕ → Type 0
Left v work answer v' work' answer' = (v ≡ v') × ((work ≡ work') × (answer ≡ answer'))

module _ (n : ℕ) (table answer work : List ℕ) (count : ℕ) (new : List ℕ) where
  -- the verdict, for the count that would be accepted
  unfoldable pub removal_verdict : Verdict
  removal_verdict = decide (removal_rules n table answer work) (accepted count)

  abbrev pub Leaves : Verdict → List ℕ → List ℕ → Type 0
  Leaves v w a = Left v w a removal_verdict (work_after removal_verdict work) (written removal_verdict new answer)

  left_at : (v : Verdict) → removal_verdict ≡ v → Leaves v (work_after v work) (written v new answer)
  left_at v e = (sym e, (sym (ap (λ (v : Verdict). work_after v work) e), sym (ap (λ (v : Verdict). written v new answer) e)))

  -- a rule is broken
  pub removal-refuses : (number place : ℕ) → decide (removal_rules n table answer work) (accepted (fragments table)) ≡ refused number place → Leaves (refused number place) work answer
  unfolding removal_verdict
  removal-refuses number place e = left_at _ (decide-refused _ _ number place _ e)

  -- every rule is kept, and the work is done
  pub removal-accepts : (m : ℕ) → decide (removal_rules n table answer work) (accepted (fragments table)) ≡ accepted m
      → {k : ℕ} {w a : List ℕ} → k ≡ count → w ≡ replicate (length work) 0 → a ≡ new → Leaves (accepted k) w a
  unfolding removal_verdict
  removal-accepts m e i j l = let left = left_at _ (decide-accepted _ _ m _ e) in (ap accepted i ∙ left.0, (j ∙ left.1.0, l ∙ left.1.1))

-- what a service ensures, from the facts in the order of its clauses
pub clauses-outcome-work-answer-meaning : {A B C D : Type 0} → A × (B × (C × D)) → record { outcome : A; work : B; answer : C; meaning : D }
clauses-outcome-work-answer-meaning w = record { outcome = w.0; work = w.1.0; answer = w.1.1.0; meaning = w.1.1.1 }
