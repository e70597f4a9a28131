-- What check returns and leaves, stage by stage.
-- Assumes nothing.
use Rattle.std.specs.Prelude.{if◌then◌else◌}
use mathlib.Core.Path.{◌≡◌, refl, sym, ap, subst, ◌∙◌}
use mathlib.Core.Bool.{Bool, true, false}
use mathlib.Core.List.{List, [], ◌∷◌}
use Prim.Native.Nat.{ℕ}
use mathlib.Core.Logic.{inl, inr}
use native.Mathlib.Nat.{eq-zero-or-pos}
use native.Mathlib.Omega.{arith}
use lib.ListN.{length}
use Rattle.below.specs.Below.{concat}
use Rattle.fields.specs.Table.{fragments}
use Rattle.records.specs.Outcome.{Verdict, accepted, refused}
use Rattle.records.specs.Rules.{Rule, decide, size_rules, table_rules}
use Rattle.below.proofs.BelowLaws.{is_true, is_false, eq-=?, ne-isnt, T-isnt-isnt}
use Rattle.records.proofs.RuleLaws.{rule-broken, rule-kept, decide-none, decide-accepted, stage-kept, stage-refused, stage-last}
use Rattle.conflicts.specs.Choice.{keep_all}
use Rattle.conflicts.specs.Grid.{Grid, grid_of}
use Rattle.conflicts.specs.Sides.{error_free, first_sides_of}
use Rattle.conflicts.specs.Answer.{answer_size, answer, check_answer}
use Rattle.conflicts.specs.Services.{written_on_yes, length_rule, check_rules, check_leaves}
use Rattle.conflicts.proofs.Outcomes.{check-refused, check-yes, check-no, check-answer}
use Rattle.places.specs.declared.lines.Line.{Line}
use Rattle.masks.specs.Algorithm.Masks.{Masks, mask_words, LetteredTable}
use Rattle.masks.proofs.RecordLaws.{kept-letters}
use Rattle.masks.proofs.TableLaws.{table-masks}
use Rattle.phasing.specs.Algorithm.Answer.{AnswerFound}
use Rattle.conflicts.specs.Minimality.{AgreeingClasses, ErrorFreeAnswer}
use Rattle.conflicts.proofs.GridLaws.{classes-agree}
use Rattle.records.specs.Algorithm.Kept.{SizesKept, RecordsKept}
use Rattle.verdicts.specs.Meanings.{CheckSays}
use Rattle.records.proofs.AcceptedLaws.{sized-count}

-- ---- the masks

-- what phasing the masks left, said of the table
pub table-found : {n m : ℕ} {table cols frags before after : List ℕ} {words : List Line} {ok : Bool} → SizesKept n m table → RecordsKept n table
    → ((k : ℕ) → LetteredTable k table → words ≡ mask_words (grid_of k table)) → cols ≡ keep_all n → frags ≡ keep_all m
    → ((g : Grid) → Masks g words → m ≡ g.m → n ≡ g.n → AnswerFound g cols frags ok before after) → AnswerFound (grid_of n table) (keep_all n) (keep_all m) ok before after
unfolding grid_of
table-found {n} {m} {table} {cols = cols} {frags} {before} {after} {ok} sized kept are f g found =
    let a = found (grid_of n table) (table-masks sized kept (are n (kept-letters kept))) (sym (sized-count sized)) refl in
    let b = subst (λ (x : List ℕ). AnswerFound (grid_of n table) x frags ok before after) f a in
    subst (λ (x : List ℕ). AnswerFound (grid_of n table) (keep_all n) x ok before after) g b

-- ---- check

-- 0 for yes and 1 for no
abbrev pub verdict_count : Bool → ℕ
verdict_count ok = if ok then 0 else 1

-- the table is error-free, and the answer of its first lawful sides
unfoldable pub free : ℕ → List ℕ → Bool
free n table = error_free 2 (grid_of n table) (keep_all n) (keep_all (fragments table))

unfoldable first_answer : ℕ → List ℕ → ℕ → List ℕ
first_answer n table m = answer (grid_of n table) (keep_all n) (first_sides_of 2 (grid_of n table) (keep_all n) (keep_all m))

leaves-answer : (n : ℕ) (table lent : List ℕ) (v : Verdict) → (check_leaves n table lent).outcome ≡ v → (check_leaves n table lent).answer ≡ written_on_yes v (first_answer n table (fragments table)) lent
unfolding check_leaves check_answer grid_of first_answer
leaves-answer n table lent v e = ap (λ (w : Verdict). written_on_yes w (check_answer (grid_of n table)) lent) e

-- what is left once the outcome is yes or no
by-verdict : (new lent after : List ℕ) (ok : Bool) → after ≡ (if ok then new else lent) → after ≡ written_on_yes (accepted (verdict_count ok)) new lent
by-verdict new lent after true e = e
by-verdict new lent after false e = e

module _ (n : ℕ) (table lent : List ℕ) where
  pub check-sizes : (number place : ℕ) → decide (size_rules n table) (accepted (fragments table)) ≡ refused number place → (check_leaves n table lent).outcome ≡ refused number place
  unfolding check_leaves check_rules
  check-sizes number place e = stage-refused _ _ _ _ number place e

  -- a refusal, as the contract has it
  pub check-refuses : (number place : ℕ) → (check_leaves n table lent).outcome ≡ refused number place
      → (refused number place ≡ (check_leaves n table lent).outcome) × (lent ≡ (check_leaves n table lent).answer)
  check-refuses number place e = (sym e, sym (check-refused n number place table lent e))

  module _ (m : ℕ) (sized : SizesKept n m table) where
    lengths : List Rule
    lengths = length_rule lent (answer_size (fragments table) n) ∷ []

    after-sizes : (check_leaves n table lent).outcome ≡ decide (concat (lengths ∷ table_rules n table ∷ [])) (accepted (verdict_count (free n table)))
    unfolding check_leaves check_rules lengths free grid_of
    after-sizes = stage-kept _ _ _ _ m sized.kept

    size_is : answer_size (fragments table) n ≡ answer_size m n
    size_is = ap (λ (k : ℕ). answer_size k n) (sized-count sized)

    pub check-length : (length lent ≡ answer_size m n → ⊥) → (check_leaves n table lent).outcome ≡ refused 11 0
    unfolding lengths length_rule
    check-length f = after-sizes ∙ stage-refused _ _ 0 _ 11 0 (rule-broken _ _ _ (sym (is_true _ (ne-isnt _ _ (λ e. f (e ∙ size_is))))))

    pub check-records : length lent ≡ answer_size m n → (check_leaves n table lent).outcome ≡ decide (table_rules n table) (accepted (verdict_count (free n table)))
    unfolding lengths length_rule
    check-records e =
        after-sizes
        ∙ stage-kept _ _ 0 _ 0 (rule-kept _ _ _ (sym (is_false _ (T-isnt-isnt _ (eq-=? _ _ (e ∙ sym size_is))))) ∙ decide-none _)
        ∙ stage-last _ _

    free-is : (ok : Bool) (after : List ℕ) → AnswerFound (grid_of n table) (keep_all n) (keep_all m) ok lent after → free n table ≡ ok
    unfolding free
    free-is ok after found = ap (λ (k : ℕ). error_free 2 (grid_of n table) (keep_all n) (keep_all k)) (sized-count sized) ∙ sym found.verdict

    first-is : (ok : Bool) (after : List ℕ) → AnswerFound (grid_of n table) (keep_all n) (keep_all m) ok lent after → after ≡ (if ok then first_answer n table (fragments table) else lent)
    unfolding first_answer
    first-is ok after found =
        found.written ∙ ap (λ (k : ℕ). if ok then answer (grid_of n table) (keep_all n) (first_sides_of 2 (grid_of n table) (keep_all n) (keep_all k)) else lent) (sym (sized-count sized))

    -- the records are kept, and phasing has said yes or no: as the contract has it
    pub check-says : (k : ℕ) (ok : Bool) (after : List ℕ) → length lent ≡ answer_size m n → decide (table_rules n table) (accepted (fragments table)) ≡ accepted k
        → AnswerFound (grid_of n table) (keep_all n) (keep_all m) ok lent after
        → (accepted (verdict_count ok) ≡ (check_leaves n table lent).outcome) × (after ≡ (check_leaves n table lent).answer)
    check-says k ok after e d found =
        let v : (check_leaves n table lent).outcome ≡ accepted (verdict_count ok) =
        check-records e ∙ decide-accepted (table_rules n table) (fragments table) k _ d ∙ ap (λ (b : Bool). accepted (verdict_count b)) (free-is ok after found) in
        (sym v, by-verdict _ lent after ok (first-is ok after found) ∙ sym (leaves-answer n table lent _ v))

  -- what the contract's equations mean
  pub check-means : {v : Verdict} {after : List ℕ} → v ≡ (check_leaves n table lent).outcome → after ≡ (check_leaves n table lent).answer → CheckSays n table after v
  check-means {v} {after} e d =
      let agree = classes-agree (grid_of n table) in
      record {
        says = λ k a.
            let y = check-yes n table lent k (sym e ∙ a) in
            elim (eq-zero-or-pos k) [
              | inl z ↦ inl (z, agree.0 (y.0 z))
              | inr p ↦
                  let none : AgreeingClasses (grid_of n table) → ⊥ = λ w. let z = y.1 (agree.1 w) in omega arith in
                  inr (check-no n table lent k (sym e ∙ a) (λ w. none (agree.0 w)), none)
            ];
        phased = λ a. subst (ErrorFreeAnswer (grid_of n table)) (sym d) (check-answer n table lent (sym e ∙ a));
      }
