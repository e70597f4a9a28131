-- S and F over the masks are S and F over the table's bytes.
-- Assumes nothing.
use Rattle.std.specs.Prelude.{if◌then◌else◌}
use mathlib.Core.Path.{◌≡◌, refl, sym, ap, ap₂, ◌∙◌}
use mathlib.Core.Bool.{Bool, true}
use mathlib.Core.List.{List}
use Prim.Native.Nat.{ℕ}
use lib.Dec.{T}
use Rattle.fields.specs.Table.{fragments}
use Rattle.records.specs.Outcome.{Verdict}
use Rattle.below.proofs.BelowLaws.{is_true}
use Rattle.records.proofs.AcceptedLaws.{sized-count}
use Rattle.conflicts.specs.Choice.{keep_all, zeros}
use Rattle.conflicts.specs.Grid.{Grid, grid_of}
use Rattle.conflicts.specs.Sides.{error_free, first_sides_of}
use Rattle.conflicts.specs.Removal.{snp_keep_marks_of, fragment_keep_marks_of}
use Rattle.conflicts.specs.Answer.{answer, snp_answer, fragment_answer}
use Rattle.conflicts.specs.Services.{snp_removal_leaves, fragment_removal_leaves}
use Rattle.conflicts.proofs.Minimality.{snp-free, fragments-free}
use Rattle.conflicts.proofs.Outcomes.{snp-accepted, fragment-accepted}
use Rattle.places.specs.declared.lines.Line.{Line}
use Rattle.masks.specs.Algorithm.Masks.{Masks, mask_words, words_grid}
use Rattle.masks.proofs.TableLaws.{table-masks, words-snp, words-fragment}
use Rattle.phasing.specs.Algorithm.Answer.{AnswerFound}
use Rattle.records.specs.Algorithm.Kept.{SizesKept, RecordsKept}
use Rattle.removals.specs.Meanings.{SnpSays, FragmentSays}
use Rattle.removals.proofs.RemovalLaws.{Leaves, removal_verdict}

module _ (n : ℕ) (table : List ℕ) where
  -- phasing what is error-free writes the answer of its first lawful sides
  bytes-phased : {keep frags before after : List ℕ} {ok : Bool} (cols rows : List ℕ) → keep ≡ cols → frags ≡ rows → T (error_free 2 (grid_of n table) cols rows)
      → AnswerFound (grid_of n table) keep frags ok before after → after ≡ answer (grid_of n table) cols (first_sides_of 2 (grid_of n table) cols rows)
  bytes-phased {keep} {frags} {before} {after} {ok} cols rows e f t found =
      let g = grid_of n table in
      let free : ok ≡ true = found.verdict ∙ ap₂ (error_free 2 g) e f ∙ sym (is_true _ t) in
      found.written
      ∙ ap (λ (b : Bool). if b then answer g keep (first_sides_of 2 g keep frags) else before) free
      ∙ ap₂ (λ (k l : List ℕ). answer g k (first_sides_of 2 g k l)) e f

  -- the phasing of S's columns is S's answer, and that of F's fragments F's
  bytes-answer : {keep frags before after : List ℕ} {ok : Bool} → keep ≡ snp_keep_marks_of (grid_of n table) → frags ≡ keep_all (fragments table)
      → AnswerFound (grid_of n table) keep frags ok before after → after ≡ snp_answer (grid_of n table)
  unfolding snp_answer grid_of
  bytes-answer e f found = bytes-phased _ _ e f (snp-free (grid_of n table)) found

  bytes-fragments : {keep frags before after : List ℕ} {ok : Bool} → keep ≡ keep_all n → frags ≡ fragment_keep_marks_of (grid_of n table)
      → AnswerFound (grid_of n table) keep frags ok before after → after ≡ fragment_answer (grid_of n table)
  unfolding fragment_answer grid_of
  bytes-fragments e f found = bytes-phased _ _ e f (fragments-free (grid_of n table)) found

-- over the words of a table that keeps its rules
module _ {n m : ℕ} {table : List ℕ} {words : List Line} (sized : SizesKept n m table) (kept : RecordsKept n table) (are : words ≡ mask_words (grid_of n table)) where
  -- what phasing the words leaves, said of the table
  found_of : {keep frags before after : List ℕ} {ok : Bool} → ((g : Grid) → Masks g words → m ≡ g.m → n ≡ g.n → AnswerFound g keep frags ok before after) → AnswerFound (grid_of n table) keep frags ok before after
  unfolding grid_of
  found_of found = found (grid_of n table) (table-masks sized kept are) (sym (sized-count sized)) refl

  pub table-answer : {keep frags before after : List ℕ} {ok : Bool} → keep ≡ snp_keep_marks_of (words_grid m n words) → frags ≡ keep_all m
      → ((g : Grid) → Masks g words → m ≡ g.m → n ≡ g.n → AnswerFound g keep frags ok before after) → after ≡ snp_answer (grid_of n table)
  table-answer e f found = bytes-answer n table (e ∙ words-snp sized kept are) (f ∙ ap keep_all (sym (sized-count sized))) (found_of found)

  pub table-fragment-answer : {keep frags before after : List ℕ} {ok : Bool} → keep ≡ keep_all n → frags ≡ fragment_keep_marks_of (words_grid m n words)
      → ((g : Grid) → Masks g words → m ≡ g.m → n ≡ g.n → AnswerFound g keep frags ok before after) → after ≡ fragment_answer (grid_of n table)
  table-fragment-answer e f found = bytes-fragments n table e (f ∙ words-fragment sized kept are) (found_of found)

-- what a removal leaves, for S's count and answer, is what S leaves, and it means what demand 3 says
module _ (n : ℕ) (table lent work : List ℕ) {v : Verdict} {w a : List ℕ} where
  pub snp-leaves : Leaves n table lent work (zeros (snp_keep_marks_of (grid_of n table))) (snp_answer (grid_of n table)) v w a
      → (v ≡ (snp_removal_leaves n table lent work).outcome) × ((w ≡ (snp_removal_leaves n table lent work).work) × ((a ≡ (snp_removal_leaves n table lent work).answer) × SnpSays n table a v))
  unfolding snp_removal_leaves removal_verdict
  snp-leaves x = (x.0, (x.1.0, (x.1.1, record { least = λ k e. rw x.1.1 (snp-accepted n table lent work k (sym x.0 ∙ e)).0 })))

  -- the same for F
  pub fragment-leaves : Leaves n table lent work (zeros (fragment_keep_marks_of (grid_of n table))) (fragment_answer (grid_of n table)) v w a
      → (v ≡ (fragment_removal_leaves n table lent work).outcome) × ((w ≡ (fragment_removal_leaves n table lent work).work) × ((a ≡ (fragment_removal_leaves n table lent work).answer) × FragmentSays n table a v))
  unfolding fragment_removal_leaves removal_verdict
  fragment-leaves x = (x.0, (x.1.0, (x.1.1, record { least = λ k e. rw x.1.1 (fragment-accepted n table lent work k (sym x.0 ∙ e)).0 })))
