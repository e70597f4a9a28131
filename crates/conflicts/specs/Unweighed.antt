-- What the weights do not change: all but C; and C where every weight is 1, which counts calls as before grades (paper 02, T-07: "Files with grade 0 get the answers they had").
-- Assumes nothing.
use Rattle.std.specs.Prelude.{◌≡◌, Bool, List, ℕ}
use Rattle.below.specs.Below.{◌=?◌, ◌and◌, sum_below, count_below}
use Rattle.records.specs.Outcome.{accepted}
use Rattle.records.specs.Rules.{decide}
use Rattle.conflicts.specs.Grid.{Grid, grid_of, with_rows, coverage}
use Rattle.conflicts.specs.Counts.{conflict_counts_of}
use Rattle.conflicts.specs.Sides.{error_free, first_sides_of}
use Rattle.conflicts.specs.Removal.{snp_keep_marks_of, fragment_keep_marks_of}
use Rattle.conflicts.specs.Corrections.{letter_weight, differs, cell_total}
use Rattle.conflicts.specs.Blocks.{block}
use Rattle.conflicts.specs.Answer.{check_answer, snp_answer, fragment_answer, corrected_grid, correction_answer, records_with}
use Rattle.conflicts.specs.Services.{correction_rules, written, work_after, CorrectionsLeft, corrections_leaves}

-- the matrix with other weights
abbrev pub reweighed : Grid → (ℕ → ℕ) → Grid
reweighed g weight = with_rows g g.cell weight

-- check, S, F, blocks and the counts of conflicts give the same whatever the weights, and so does the coverage that rule 12 counts
pub record WeightsUnread (g : Grid) (weight : ℕ → ℕ) : Type 0 where
  pub verdict : (keep_cols keep_frags : List ℕ) → error_free 2 (reweighed g weight) keep_cols keep_frags ≡ error_free 2 g keep_cols keep_frags
  pub sides : (keep_cols keep_frags : List ℕ) → first_sides_of 2 (reweighed g weight) keep_cols keep_frags ≡ first_sides_of 2 g keep_cols keep_frags
  pub blocks : (keep_cols sides : List ℕ) (i : ℕ) → block (reweighed g weight) keep_cols sides i ≡ block g keep_cols sides i
  pub check : check_answer (reweighed g weight) ≡ check_answer g
  pub counts : conflict_counts_of (reweighed g weight) ≡ conflict_counts_of g
  pub snps : snp_keep_marks_of (reweighed g weight) ≡ snp_keep_marks_of g
  pub answer_of_snps : snp_answer (reweighed g weight) ≡ snp_answer g
  pub fragments : fragment_keep_marks_of (reweighed g weight) ≡ fragment_keep_marks_of g
  pub answer_of_fragments : fragment_answer (reweighed g weight) ≡ fragment_answer g
  pub covered : (c : ℕ) → coverage (reweighed g weight) c ≡ coverage g c

-- ---- C by counts

-- the matrix on which every correction costs 1
unfoldable pub ungraded : Grid → Grid
ungraded g = with_rows g g.cell (λ i. 1)

-- how many cells of the matrix a set of cells has
unfoldable pub cell_count : Grid → (ℕ → ℕ → Bool) → ℕ
cell_count g cells = sum_below g.m (λ i. count_below g.n (cells i))

-- "the changed cells"
unfoldable pub changed_cells : Grid → Grid → ℕ
changed_cells g h = cell_count g (differs g h)

-- "the corrected records", by counts
unfoldable pub counted_table : ℕ → List ℕ → List ℕ
counted_table n table = records_with table (corrected_grid (ungraded (grid_of n table)))

-- C by counts: "the count returned equals the changed cells"
unfoldable pub counted_leaves : ℕ → List ℕ → List ℕ → List ℕ → List ℕ → CorrectionsLeft
counted_leaves n table answer output work =
    let g = ungraded (grid_of n table) in
    let v = decide (correction_rules n table answer output work) (accepted (changed_cells g (grid_of n (counted_table n table)))) in
    record { outcome = v; answer = written v (correction_answer g) answer; table = written v (counted_table n table) output; work = work_after v work }

-- on the ungraded matrix the weight of a letter on a side is its count, "the counts of A and B", and the total of a set is how many cells it has
pub record CallsCounted (g : Grid) : Type 0 where
  pub letters : (side : ℕ → ℕ) (s c letter : ℕ) → letter_weight (ungraded g) side s c letter ≡ count_below g.m (λ i. side i =? s and g.cell i c =? letter)
  pub totals : (set : ℕ → ℕ → Bool) → cell_total (ungraded g) set ≡ cell_count g set

-- a table whose weights are all 1: C leaves what C by counts leaves, and the total of every set of calls is how many it has
pub record AsCounted (n : ℕ) (table : List ℕ) : Type 0 where
  pub leaves : (answer output work : List ℕ) → corrections_leaves n table answer output work ≡ counted_leaves n table answer output work
  pub totals : (set : ℕ → ℕ → Bool) → cell_total (grid_of n table) set ≡ cell_count (grid_of n table) set
