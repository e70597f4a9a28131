-- What the outcome of a call says of the buffers that it leaves: check, S and F after an acceptance, and every service after a refusal.
-- Assumes nothing.
use Rattle.std.specs.Prelude.{if◌then◌else◌}
use mathlib.Core.Path.{◌≡◌, refl, sym, ap, subst, ◌∙◌}
use mathlib.Core.Logic.{◌↔◌, ◌⊎◌, inl, inr}
use mathlib.Core.Bool.{Bool}
use mathlib.Core.List.{List}
use Prim.Native.Nat.{ℕ}
use native.Mathlib.Omega.{arith}
use lib.Dec.{T}
use lib.ListN.{length, replicate}
use Rattle.below.specs.Below.{isnt}
use Rattle.fields.specs.Table.{unpacked_cells, unpacked_tags, unpacked_grades}
use Rattle.fields.specs.Writing.{packed}
use Rattle.records.specs.Outcome.{Verdict, accepted, refused}
use Rattle.records.specs.Rules.{Rule, decide}
use Rattle.records.proofs.RuleLaws.{accepted-count}
use Rattle.below.proofs.BelowLaws.{decided, if-true, if-false}
use Rattle.conflicts.specs.Choice.{zeros, keep_all}
use Rattle.conflicts.specs.Grid.{Grid, grid_of}
use Rattle.conflicts.specs.Counts.{conflict_counts_of}
use Rattle.conflicts.specs.Sides.{error_free}
use Rattle.conflicts.specs.Removal.{snp_keep_marks_of, fragment_keep_marks_of}
use Rattle.conflicts.specs.Answer.{check_answer, snp_answer, fragment_answer, correction_answer, corrected_table}
use Rattle.conflicts.specs.Minimality.{everything, TwoClasses, ErrorFreeAnswer, SnpRemoval, FragmentRemoval}
use Rattle.conflicts.specs.Services.{written, written_on_yes, work_after, check_rules, removal_rules, unpack_leaves, pack_leaves, check_leaves, conflict_counts_leaves, snp_removal_leaves, fragment_removal_leaves, corrections_leaves}
use Rattle.conflicts.proofs.Minimality.{checked, error_free-classes, snp_removal_holds, fragment_removal_holds}

-- ---- check

abbrev yes_no_number : Grid → ℕ
yes_no_number g = if error_free 2 g (keep_all g.n) (keep_all g.m) then 0 else 1

module _ (n : ℕ) (table answer : List ℕ) where
  -- an accepted check says yes exactly if two classes exist
  pub check-yes : (k : ℕ) → (check_leaves n table answer).outcome ≡ accepted k → (k ≡ 0) ↔ TwoClasses (grid_of n table) everything everything
  unfolding check_leaves
  check-yes k e = (λ z. (error_free-classes g).0 (only_yes (accepted-count rules (yes_no_number g) k e ∙ z)), λ w. sym (accepted-count rules (yes_no_number g) k e) ∙ if-true free 0 1 ((error_free-classes g).1 w))
    where
      g : Grid
      g = grid_of n table

      free : Bool
      free = error_free 2 g (keep_all g.n) (keep_all g.m)

      rules : List Rule
      rules = check_rules n table answer

      only_yes : yes_no_number g ≡ 0 → T free
      only_yes q = go (decided free)
        where
          go : T free ⊎ T (isnt free) → T free
          go (inl t) = t
          go (inr t) = let z = if-false {A = ℕ} free 0 1 t in absurd (omega arith)

  -- "0 for yes and 1 for no"
  pub check-no : (k : ℕ) → (check_leaves n table answer).outcome ≡ accepted k → (TwoClasses (grid_of n table) everything everything → ⊥) → k ≡ 1
  unfolding check_leaves
  check-no k e f = sym (accepted-count (check_rules n table answer) (yes_no_number (grid_of n table)) k e) ∙ if-false _ 0 1 (none (decided _))
    where
      free : Bool
      free = error_free 2 (grid_of n table) (keep_all (grid_of n table).n) (keep_all (grid_of n table).m)

      none : T free ⊎ T (isnt free) → T (isnt free)
      none (inl t) = absurd (f ((error_free-classes (grid_of n table)).0 t))
      none (inr t) = t

  -- the answer after a yes
  pub check-answer : (check_leaves n table answer).outcome ≡ accepted 0 → ErrorFreeAnswer (grid_of n table) (check_leaves n table answer).answer
  unfolding check_leaves
  check-answer e =
      let w = checked (grid_of n table) ((error_free-classes (grid_of n table)).1 ((check-yes 0 e).0 refl)) in
      subst (λ (v : Verdict). ErrorFreeAnswer (grid_of n table) (written_on_yes v (check_answer (grid_of n table)) answer)) (sym e) w

  -- "a no from check leaves the answer untouched"
  pub no-untouched : (check_leaves n table answer).outcome ≡ accepted 1 → (check_leaves n table answer).answer ≡ answer
  unfolding check_leaves
  no-untouched e = ap (λ (v : Verdict). written_on_yes v (check_answer (grid_of n table)) answer) e

-- ---- S and F

-- what holds of the new answer and the count holds of the answer left and the number returned, and the work buffer is all zero
pub accepted-leaves : (P : List ℕ → ℕ → Type 0) (rules : List Rule) (new old work : List ℕ) (count k : ℕ) → P new count → decide rules (accepted count) ≡ accepted k
    → P (written (decide rules (accepted count)) new old) k × (work_after (decide rules (accepted count)) work ≡ replicate (length work) 0)
accepted-leaves P rules new old work count k holds e =
    (subst (λ (v : Verdict). P (written v new old) k) (sym e) (subst (λ (j : ℕ). P new j) (accepted-count rules count k e) holds), ap (λ (v : Verdict). work_after v work) e)

module _ (n : ℕ) (table answer work : List ℕ) (k : ℕ) where
  -- an accepted S: demand 3 on its answer and the number returned, and the work buffer all zero
  pub snp-accepted : (snp_removal_leaves n table answer work).outcome ≡ accepted k
      → SnpRemoval (grid_of n table) (snp_removal_leaves n table answer work).answer k × ((snp_removal_leaves n table answer work).work ≡ replicate (length work) 0)
  unfolding snp_removal_leaves
  snp-accepted =
      let g = grid_of n table in
      accepted-leaves (SnpRemoval g) (removal_rules n table answer work) (snp_answer g) answer work (zeros (snp_keep_marks_of g)) k (snp_removal_holds g)

  -- an accepted F
  pub fragment-accepted : (fragment_removal_leaves n table answer work).outcome ≡ accepted k
      → FragmentRemoval (grid_of n table) (fragment_removal_leaves n table answer work).answer k × ((fragment_removal_leaves n table answer work).work ≡ replicate (length work) 0)
  unfolding fragment_removal_leaves
  fragment-accepted =
      let g = grid_of n table in
      accepted-leaves (FragmentRemoval g) (removal_rules n table answer work) (fragment_answer g) answer work (zeros (fragment_keep_marks_of g)) k (fragment_removal_holds g)

-- ---- "a refusal writes nothing"

module _ {v : Verdict} {number place : ℕ} (e : v ≡ refused number place) where
  unwritten : (new old : List ℕ) → written v new old ≡ old
  unwritten new old = ap (λ (v : Verdict). written v new old) e

  unworked : (work : List ℕ) → work_after v work ≡ work
  unworked work = ap (λ (v : Verdict). work_after v work) e

module _ (n : ℕ) (number place : ℕ) where
  pub unpack-refused : (table cells tags grades : List ℕ) → (unpack_leaves n table cells tags grades).outcome ≡ refused number place
      → ((unpack_leaves n table cells tags grades).cells ≡ cells) × ((unpack_leaves n table cells tags grades).tags ≡ tags) × ((unpack_leaves n table cells tags grades).grades ≡ grades)
  unfolding unpack_leaves
  unpack-refused table cells tags grades e = (unwritten e (unpacked_cells n table) cells, unwritten e (unpacked_tags table) tags, unwritten e (unpacked_grades table) grades)

  pub pack-refused : (cells tags grades table : List ℕ) → (pack_leaves n cells tags grades table).outcome ≡ refused number place → (pack_leaves n cells tags grades table).table ≡ table
  unfolding pack_leaves
  pack-refused cells tags grades table e = unwritten e (packed n cells tags grades) table

  pub check-refused : (table answer : List ℕ) → (check_leaves n table answer).outcome ≡ refused number place → (check_leaves n table answer).answer ≡ answer
  unfolding check_leaves
  check-refused table answer e = ap (λ (v : Verdict). written_on_yes v (check_answer (grid_of n table)) answer) e

  pub counts-refused : (table counts : List ℕ) → (conflict_counts_leaves n table counts).outcome ≡ refused number place → (conflict_counts_leaves n table counts).counts ≡ counts
  unfolding conflict_counts_leaves
  counts-refused table counts e = unwritten e (conflict_counts_of (grid_of n table)) counts

  pub snp-refused : (table answer work : List ℕ) → (snp_removal_leaves n table answer work).outcome ≡ refused number place
      → ((snp_removal_leaves n table answer work).answer ≡ answer) × ((snp_removal_leaves n table answer work).work ≡ work)
  unfolding snp_removal_leaves
  snp-refused table answer work e = (unwritten e (snp_answer (grid_of n table)) answer, unworked e work)

  pub fragment-refused : (table answer work : List ℕ) → (fragment_removal_leaves n table answer work).outcome ≡ refused number place
      → ((fragment_removal_leaves n table answer work).answer ≡ answer) × ((fragment_removal_leaves n table answer work).work ≡ work)
  unfolding fragment_removal_leaves
  fragment-refused table answer work e = (unwritten e (fragment_answer (grid_of n table)) answer, unworked e work)

  pub corrections-refused : (table answer output work : List ℕ) → (corrections_leaves n table answer output work).outcome ≡ refused number place
      → ((corrections_leaves n table answer output work).answer ≡ answer) × ((corrections_leaves n table answer output work).table ≡ output) × ((corrections_leaves n table answer output work).work ≡ work)
  unfolding corrections_leaves
  corrections-refused table answer output work e =
      (unwritten e (correction_answer (grid_of n table)) answer, unwritten e (corrected_table n table) output, unworked e work)
