-- Only C looks at the weights; and where all are 1, C is C by counts.
-- Assumes nothing.
use Rattle.std.specs.Prelude.{if◌then◌else◌}
use mathlib.Core.Path.{◌≡◌, refl, ap, ap₂, fun_ext, ◌∙◌}
use mathlib.Core.Bool.{Bool}
use mathlib.Core.List.{List}
use Prim.Native.Nat.{ℕ, zero, suc, ◌≤◌, ◌<◌}
use native.Mathlib.Omega.{arith}
use Rattle.below.specs.Below.{◌=?◌, ◌and◌, count_below, tab, concat}
use Rattle.fields.specs.Record.{grade_of}
use Rattle.fields.specs.Grades.{weights, weight_of}
use Rattle.fields.specs.Table.{fragments, record_bytes_at}
use Rattle.records.specs.Outcome.{accepted}
use Rattle.records.specs.Rules.{decide}
use Rattle.below.proofs.BelowLaws.{sum-ext}
use Rattle.below.proofs.TestLaws.{if-bit}
use Rattle.conflicts.specs.Grid.{Grid, grid_of, with_rows, with_cells, conflict_on, conflict_on_kept, stretch_covers, coverage}
use Rattle.conflicts.specs.Counts.{conflict_count_of, conflict_counts_of}
use Rattle.conflicts.specs.Sides.{lawful, error_free, first_sides_of}
use Rattle.conflicts.specs.Removal.{snp_keep_marks_of, fragment_keep_marks_of}
use Rattle.conflicts.specs.Corrections.{correction_cost, letter_weight, least_cost_sides_of, corrected_cell, corrected, differs, cell_total, changed_total}
use Rattle.conflicts.specs.Haplotypes.{side_call, haplotype, haplotypes}
use Rattle.conflicts.specs.Blocks.{linked, block}
use Rattle.conflicts.specs.Answer.{answer, check_answer, snp_answer, fragment_answer, corrected_grid, correction_answer, rewritten, records_with, corrected_table}
use Rattle.conflicts.specs.Services.{correction_rules, written, work_after, CorrectionsLeft, corrections_leaves}
use Rattle.conflicts.specs.Unweighed.{WeightsUnread, ungraded, cell_count, changed_cells, counted_table, counted_leaves, CallsCounted, AsCounted}
use Rattle.conflicts.proofs.AlikeLaws.{corrected_cell-alike, least_cost_sides_of-alike, correction_answer-alike}

pub weights-unread : (g : Grid) (weight : ℕ → ℕ) → WeightsUnread g weight
unfolding with_rows conflict_on conflict_on_kept stretch_covers coverage conflict_count_of conflict_counts_of lawful error_free first_sides_of snp_keep_marks_of fragment_keep_marks_of
    side_call haplotype haplotypes linked block answer check_answer snp_answer fragment_answer
weights-unread g weight = record {
  verdict = λ cols frags. refl;
  sides = λ cols frags. refl;
  blocks = λ cols sides i. refl;
  check = refl;
  counts = refl;
  snps = refl;
  answer_of_snps = refl;
  fragments = refl;
  answer_of_fragments = refl;
  covered = λ c. refl;
}

-- ---- C by counts

set-counted : (g : Grid) → ((i : ℕ) → i < g.m → g.weight i ≡ 1) → (set : ℕ → ℕ → Bool) → cell_total g set ≡ cell_count g set
unfolding cell_total cell_count count_below correction_cost
set-counted g light set =
    sum-ext g.m _ _ λ i hi. sum-ext g.n _ _ λ c hc. ap (λ (w : ℕ). if set i c then w else 0) (light i hi) ∙ if-bit (set i c)

pub calls-counted : (g : Grid) → CallsCounted g
unfolding ungraded with_rows letter_weight correction_cost count_below cell_count
calls-counted g = record {
  letters = λ side s c letter. sum-ext g.m _ _ λ i hi. if-bit (side i =? s and g.cell i c =? letter);
  totals = set-counted (ungraded g) (λ i hi. refl);
}

-- the weight of grades 0 and 1
light-grade : (grade : ℕ) → grade ≤ 1 → weight_of grade ≡ 1
unfolding weight_of weights
light-grade zero h = refl
light-grade (suc zero) h = refl
light-grade (suc (suc k)) h = absurd (omega arith)

module _ (n : ℕ) (table : List ℕ) (low : (i : ℕ) → i < fragments table → grade_of (record_bytes_at table i) ≤ 1) where
  abbrev g : Grid
  g = grid_of n table

  light : (i : ℕ) → i < (grid_of n table).m → (grid_of n table).weight i ≡ 1
  unfolding grid_of
  light i h = light-grade _ (low i h)

  counted-sides : least_cost_sides_of 2 (grid_of n table) ≡ least_cost_sides_of 2 (ungraded (grid_of n table))
  unfolding ungraded
  counted-sides = least_cost_sides_of-alike g g.cell (λ i. 1) (λ i c hi hc. refl) light 2

  counted-answer : correction_answer (grid_of n table) ≡ correction_answer (ungraded (grid_of n table))
  unfolding ungraded
  counted-answer = correction_answer-alike g g.cell (λ i. 1) (λ i c hi hc. refl) light

  counted-cell : (i c : ℕ) → (corrected_grid (grid_of n table)).cell i c ≡ (corrected_grid (ungraded (grid_of n table))).cell i c
  unfolding ungraded corrected_grid corrected with_cells
  counted-cell i c =
      corrected_cell-alike g g.cell (λ i. 1) light c (λ i hi. refl) (least_cost_sides_of 2 g) i refl
      ∙ ap (λ (l : List ℕ). corrected_cell (ungraded g) l i c) counted-sides

  counted-table : corrected_table n table ≡ counted_table n table
  unfolding corrected_table counted_table records_with
  counted-table = ap (λ (cell : ℕ → ℕ → ℕ). concat (tab (fragments table) (λ i. rewritten (record_bytes_at table i) (cell i)))) (fun_ext λ i. fun_ext λ c. counted-cell i c)

  counted-number : changed_total (grid_of n table) (grid_of n (corrected_table n table)) ≡ changed_cells (ungraded (grid_of n table)) (grid_of n (counted_table n table))
  unfolding changed_total changed_cells ungraded with_rows cell_count differs
  counted-number =
      set-counted g light (differs g (grid_of n (corrected_table n table)))
      ∙ ap (λ (t : List ℕ). changed_cells (ungraded g) (grid_of n t)) counted-table

  pub as-counted : AsCounted n table
  unfolding corrections_leaves counted_leaves
  as-counted = record {
    leaves = λ lent output work.
        let left : ℕ → List ℕ → List ℕ → CorrectionsLeft = λ number bytes records.
        (let v = decide (correction_rules n table lent output work) (accepted number) in
        record { outcome = v; answer = written v bytes lent; table = written v records output; work = work_after v work }) in
        ap (λ (k : ℕ). left k (correction_answer g) (corrected_table n table)) counted-number
        ∙ ap₂ (left (changed_cells (ungraded g) (grid_of n (counted_table n table)))) counted-answer counted-table;
    totals = set-counted g light;
  }
