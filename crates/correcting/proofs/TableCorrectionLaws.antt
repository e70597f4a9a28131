-- C over the cell matrix is C over the table's bytes; what C returns and leaves.
-- Assumes nothing.
use mathlib.Core.Path.{◌≡◌, refl, sym, ap, ap₂, subst, ◌∙◌}
use mathlib.Core.List.{List}
use Prim.Native.Nat.{ℕ, ◌+◌, ◌*◌, ◌≤◌, ◌<◌}
use native.Mathlib.Nat.{lt_of_lt_of_le}
use native.Mathlib.Decide.{dec_lt}
use native.Mathlib.Omega.{arith}
use lib.Dec.{lit≤}
use lib.ListN.{length, get_or, replicate}
use Rattle.below.specs.Below.{nth, concat, ◌<?◌}
use Rattle.fields.specs.Record.{start_of, span_of, code_at}
use Rattle.fields.specs.Table.{fragments, record_bytes_at}
use Rattle.records.specs.Outcome.{Verdict, accepted, refused}
use Rattle.records.specs.Rules.{decide, table_rules}
use Rattle.below.proofs.BelowLaws.{T-isnt, lt-<?, le-isnt}
use Rattle.below.proofs.RowLaws.{tab-ext}
use Rattle.records.proofs.RuleLaws.{decide-accepted, stage-last, stages-kept, stages-refused}
use Rattle.fields.proofs.ByteLaws.{cell-past}
use Rattle.records.proofs.PackLaws.{Sound, sound-narrow, sound-fits, sound-after}
use Rattle.records.proofs.SoundLaws.{sound-row-small}
use Rattle.records.proofs.TableLaws.{length-record_bytes_at, fragments-of}
use Rattle.records.proofs.AcceptedLaws.{whole-records, accepted-sound, sized-count, sized-n, sized-m}
use Rattle.stages.proofs.StageLaws.{correction-sized, correction-kept}
use Rattle.conflicts.specs.Choice.{marked, keep_all}
use Rattle.conflicts.specs.Grid.{Grid, grid_of, with_cells}
use Rattle.matrix.specs.Algorithm.Matrix.{matrix_grid, weighted_grid}
use Rattle.conflicts.specs.Corrections.{cost, least_cost_sides_of, corrected_cell, corrected, changed_total}
use Rattle.conflicts.specs.Answer.{answer, corrected_grid, correction_answer, rewritten, records_with, corrected_table}
use Rattle.conflicts.specs.Minimality.{LawfulSides}
use Rattle.conflicts.specs.Served.{NoneDeep}
use Rattle.conflicts.specs.Services.{written, work_after, depth_rules, correction_rules, corrections_leaves, correction_stages}
use Rattle.conflicts.proofs.LeastCorrections.{least-length, least_on}
use Rattle.conflicts.proofs.CorrectionLaws.{corrected-apart}
use Rattle.conflicts.proofs.CorrectedTableLaws.{rewritten-same, rewritten-start, rewritten-span, span-cell, later-cell, corrected-small, corrected-two, row_small, length-corrected, record-corrected, grid-corrected}
use Rattle.conflicts.proofs.CorrectionsMinimality.{changed-number, corrections-accepted}
use Rattle.conflicts.proofs.DeepLaws.{deep-refused, deep-kept}
use Rattle.matrix.specs.Algorithm.Cells.{table_cells, table_weights}
use Rattle.places.specs.declared.lines.Line.{Line}
use Rattle.masks.specs.Algorithm.Masks.{Masks, mask_words, Lettered, LetteredTable}
use Rattle.matrix.proofs.TableLaws.{cells-coverage, weighed-cost, weighed-sides, weighed-cell}
use Rattle.slots.specs.Algorithm.Columns.{first_deep_of}
use Rattle.rewriting.specs.Algorithm.Letters.{OnSides}
use Rattle.slots.specs.declared.spans.Span.{Span}
use Rattle.slots.specs.Algorithm.Spans.{Spanned, deep_by}
use Rattle.slots.proofs.DepthLaws.{deep_is, first-deep, first-none}
use Rattle.slots.proofs.GrantLaws.{first-same}
use Rattle.rewriting.proofs.LetterLaws.{corrected-cell, corrected-two-bits}
use Rattle.records.specs.Algorithm.Kept.{SizesKept, RecordsKept}
use Rattle.correcting.specs.Algorithm.Stages.{CorrectionKept}
use Rattle.correcting.specs.Algorithm.Settled.{Settled}
use Rattle.correcting.specs.Meanings.{CorrectionSays}
use Rattle.rewriting.specs.Algorithm.Rewriting.{row_in, TwoBits, rewritten_table}
use Rattle.matrix.proofs.KeptLaws.{few, grid-is, table-codes}

-- the sides of least cost are sides
pub settled-sides : (m n : ℕ) (cells weights : List ℕ) {sides : List ℕ} → sides ≡ least_cost_sides_of 2 (weighted_grid m n cells weights) → OnSides m sides
unfolding weighted_grid
settled-sides m n cells weights least =
    let g = weighted_grid m n cells weights in
    record { size = ap length least ∙ least-length 2 g (lit≤ tt); on = λ i h. rw least (least_on 2 g (lit≤ tt) i h) }

-- the masks that were filled are those of the table
pub filled-masks : (n : ℕ) (table : List ℕ) {m : ℕ} {words : List Line} → m ≤ 128 → n ≤ 128 → m ≡ fragments table → words ≡ mask_words (grid_of n table) → Masks (grid_of n table) words
unfolding grid_of
filled-masks n table few narrow e are = record { few = (let h = few in omega arith); narrow = narrow; are = are }

-- sides of least cost are lawful after correction
least-lawful : (g : Grid) (cols : List ℕ) → LawfulSides 2 (corrected_grid g) (marked cols) (marked (least_cost_sides_of 2 g)) (nth (least_cost_sides_of 2 g))
unfolding corrected_grid corrected with_cells marked
least-lawful g cols = record {
  on = λ i h t. least_on 2 g (lit≤ tt) i h;
  off = λ i h t. absurd (T-isnt _ t (lt-<? 0 _ (least_on 2 g (lit≤ tt) i h).0));
  apart = λ i j c hi hj hc ki kj kc e t. corrected-apart g (least_cost_sides_of 2 g) i j c e t;
}

row-two : (n : ℕ) (table : List ℕ) (i c : ℕ) → code_at (record_bytes_at table i) c ≤ 2 → (corrected_grid (grid_of n table)).cell i c ≤ 2
unfolding corrected_grid grid_of
row-two n table i c h = corrected-two (grid_of n table) (least_cost_sides_of 2 (grid_of n table)) i c h

-- C's records have letters that masks can be filled from
pub corrected-letters : {n : ℕ} {table : List ℕ} → RecordsKept n table → LetteredTable n (corrected_table n table)
corrected-letters {n} {table} kept = record { each = λ i h. go i (subst (λ (k : ℕ). i < k) (fragments-of (corrected_table n table) (fragments table) (length-corrected n table)) h) }
  where
    row : ℕ → ℕ → ℕ
    row = (corrected_grid (grid_of n table)).cell

    lettered : (i : ℕ) → i < fragments table → Sound n (record_bytes_at table i) → Lettered n (rewritten (record_bytes_at table i) (row i))
    lettered i h sound =
        let r = record_bytes_at table i in
        let full = length-record_bytes_at table i h in
        let e = rewritten-start r (row i) full in
        let d = rewritten-span r (row i) full in
        let narrow = sound-narrow n r sound in
        record {
          fits = (let f = sound-fits n r sound in omega arith);
          small = λ k l. rw (span-cell r (row i) full (row_small n table i) k (omega arith) (omega arith)) (row-two n table i (start_of r + k) (sound-row-small n r sound (start_of r + k)));
          after = λ k l. elim (dec_lt k 96) [
            | yes b ↦ later-cell r (row i) full (row_small n table i) k b (le-isnt k (span_of r) (omega arith)) ∙ sound-after n r sound k (omega arith) b
            | no b ↦ cell-past (rewritten r (row i)) k (omega arith)
          ];
        }

    go : (i : ℕ) → i < fragments table → Lettered n (record_bytes_at (corrected_table n table) i)
    go i h = subst (Lettered n) (sym (record-corrected n table i h)) (lettered i h (accepted-sound n table _ _ kept.kept i h))

-- ---- the matrix and the bytes

module _ {n m : ℕ} {table cells : List ℕ} (sized : SizesKept n m table) (same : cells ≡ table_cells n table) {spans : List Span} (spanned : Spanned (matrix_grid m n cells) spans) where
  abbrev g : Grid
  g = matrix_grid m n cells

  -- rule 12's column, by where the fragments start and end
  pub table-deep : deep_by m n spans ≡ first_deep_of (grid_of n table)
  unfolding first_deep_of matrix_grid grid_of
  table-deep =
      deep_is g spans spanned
      ∙ ap first_deep_of (grid-is sized same)
      ∙ first-same n _ _ (λ c h. ap (λ (x : ℕ). 8 <? x) (cells-coverage n table (sized-n sized) (few sized same) c))

  -- no column is too deep
  pub table-shallow : deep_by m n spans ≡ n → NoneDeep (matrix_grid m n cells)
  unfolding matrix_grid
  table-shallow past = let e = deep_is g spans spanned in first-none g (omega arith)

module _ {n m : ℕ} {table cells : List ℕ} (sized : SizesKept n m table) (kept : RecordsKept n table) (same : cells ≡ table_cells n table) where
  -- the matrix with the weights of the table's grades
  abbrev w : Grid
  w = weighted_grid m n cells (table_weights table)

  weighed-is : weighted_grid m n cells (table_weights table) ≡ weighted_grid (fragments table) n (table_cells n table) (table_weights table)
  weighed-is = ap₂ (λ (k : ℕ) (x : List ℕ). weighted_grid k n x (table_weights table)) (sym (sized-count sized)) same

  module _ {sides fixed : List ℕ} {total : ℕ} (settled : Settled m n cells (table_weights table) sides fixed total) where
    -- C's number
    pub table-count : total ≡ changed_total (grid_of n table) (grid_of n (corrected_table n table))
    table-count =
        settled.costs
        ∙ ap (λ (h : Grid). cost 2 h (least_cost_sides_of 2 h)) weighed-is
        ∙ weighed-cost n table (sized-n sized) (few sized same) 2 _
        ∙ ap (cost 2 (grid_of n table)) (weighed-sides n table (sized-n sized) (few sized same) 2)
        ∙ sym (changed-number n table (whole-records n table _ _ sized.kept))

    fixed-cell : (i c : ℕ) → i < m → c < n → get_or fixed (i * 128 + c) 0 ≡ corrected_cell (weighted_grid m n cells (table_weights table)) sides i c
    fixed-cell i c hi hc = ap (λ (l : List ℕ). get_or l (i * 128 + c) 0) settled.turned ∙ corrected-cell m n cells (table_weights table) sides (sized-m sized) (sized-n sized) i c hi hc

    pub table-two-bits : TwoBits fixed
    unfolding matrix_grid weighted_grid corrected with_cells
    table-two-bits = record {
      small = λ k. rw settled.turned (corrected-two-bits m n cells (table_weights table) sides (sized-m sized) (sized-n sized)
          (λ i c hi hc. corrected-small w sides i c (let x = table-codes sized same kept i c hi hc in omega arith)) k);
    }

    -- the sides are those of least cost of the table
    sides_are : sides ≡ least_cost_sides_of 2 (grid_of n table)
    sides_are = settled.least ∙ ap (least_cost_sides_of 2) weighed-is ∙ weighed-sides n table (sized-n sized) (few sized same) 2

    pub sides-size : length sides ≡ m
    sides-size = (settled-sides m n cells (table_weights table) settled.least).size

    whole : grid_of n (corrected_table n table) ≡ corrected_grid (grid_of n table)
    whole = grid-corrected n table (whole-records n table _ _ sized.kept)

    -- they are lawful in C's table
    pub sides-lawful : (cols : List ℕ) → LawfulSides 2 (grid_of n (corrected_table n table)) (marked cols) (marked sides) (nth sides)
    unfolding corrected_grid
    sides-lawful cols = subst (λ (h : Grid). LawfulSides 2 h (marked cols) (marked sides) (nth sides)) (sym whole) (subst (λ (s : List ℕ). LawfulSides 2 (corrected_grid (grid_of n table)) (marked cols) (marked s) (nth s)) (sym sides_are) (least-lawful (grid_of n table) cols))

    -- C's answer
    pub table-correction : {cols after : List ℕ} → cols ≡ keep_all n → after ≡ answer (grid_of n (corrected_table n table)) cols sides → after ≡ correction_answer (grid_of n table)
    unfolding correction_answer grid_of
    table-correction {cols} all e = e ∙ ap (λ (h : Grid). answer h cols sides) whole ∙ ap₂ (answer (corrected_grid (grid_of n table))) all sides_are

    -- a corrected cell, read from the bytes
    fixed-code : (i c : ℕ) → i < fragments table → c < n → get_or fixed (i * 128 + c) 0 ≡ (corrected_grid (grid_of n table)).cell i c
    unfolding corrected_grid corrected with_cells
    fixed-code i c hi hc =
        fixed-cell i c (let e = sized-count sized in omega arith) hc
        ∙ ap₂ (λ (h : Grid) (s : List ℕ). corrected_cell h s i c) weighed-is sides_are
        ∙ weighed-cell n table (sized-n sized) (few sized same) (least_cost_sides_of 2 (grid_of n table)) i c hi hc

    -- C's table
    pub table-records : {after : List ℕ} → after ≡ rewritten_table table fixed → after ≡ corrected_table n table
    unfolding rewritten_table corrected_table records_with row_in
    table-records e =
        e
        ∙ ap concat (tab-ext (fragments table) _ _ λ i hi.
        rewritten-same (record_bytes_at table i) _ _ λ c from to. fixed-code i c hi (lt_of_lt_of_le to (sound-fits n (record_bytes_at table i) (accepted-sound n table _ _ kept.kept i hi))))

    -- the answer of the sides in the records that were written
    pub table-answered : {records after : List ℕ} → records ≡ corrected_table n table
        → (LetteredTable n records → length sides ≡ fragments records → LawfulSides 2 (grid_of n records) (marked (keep_all n)) (marked sides) (nth sides) → after ≡ answer (grid_of n records) (keep_all n) sides)
        → after ≡ correction_answer (grid_of n table)
    table-answered {records} {after} e answered =
        table-correction refl (subst (λ (t : List ℕ). LetteredTable n t → length sides ≡ fragments t → LawfulSides 2 (grid_of n t) (marked (keep_all n)) (marked sides) (nth sides) → after ≡ answer (grid_of n t) (keep_all n) sides) e answered
        (corrected-letters kept) (sides-size ∙ sym (fragments-of (corrected_table n table) (fragments table) (length-corrected n table) ∙ sized-count sized)) (sides-lawful (keep_all n)))

-- ---- what C returns and leaves

module _ (n : ℕ) (table lent output scratch : List ℕ) where
  -- what C's contract says of its outcome and the three buffers
  abbrev pub CorrectionLeft : Verdict → List ℕ → List ℕ → List ℕ → Type 0
  CorrectionLeft v w a t = record {
    outcome : v ≡ (corrections_leaves n table lent output scratch).outcome;
    work : w ≡ (corrections_leaves n table lent output scratch).work;
    answer : a ≡ (corrections_leaves n table lent output scratch).answer;
    corrected : t ≡ (corrections_leaves n table lent output scratch).table;
  }

  left_at : (v : Verdict) → (corrections_leaves n table lent output scratch).outcome ≡ v
      → CorrectionLeft v (work_after v scratch) (written v (correction_answer (grid_of n table)) lent) (written v (corrected_table n table) output)
  unfolding corrections_leaves
  left_at v e = record {
    outcome = sym e;
    work = sym (ap (λ (v : Verdict). work_after v scratch) e);
    answer = sym (ap (λ (v : Verdict). written v (correction_answer (grid_of n table)) lent) e);
    corrected = sym (ap (λ (v : Verdict). written v (corrected_table n table) output) e);
  }

  -- a rule but 12 is broken
  pub correction-refuses : (number place : ℕ) → decide (concat (correction_stages n table lent output scratch)) (accepted (fragments table)) ≡ refused number place
      → CorrectionLeft (refused number place) scratch lent output
  unfolding corrections_leaves correction_rules
  correction-refuses number place e = left_at _ (stages-refused (correction_stages n table lent output scratch) _ _ _ number place e)

  module _ {m : ℕ} (kept : CorrectionKept n m table lent output scratch) where
    -- the records keep their rules, with the number of fragments that the call accepts
    pub sound-accepted : decide (table_rules n table) (accepted (fragments table)) ≡ accepted m
    sound-accepted = decide-accepted _ _ _ _ (correction-kept n table lent output scratch m kept.kept).kept ∙ ap accepted (sized-count (correction-sized n table lent output scratch m kept.kept))

    -- 12 decides
    after-stages : (v : Verdict) → decide (correction_rules n table lent output scratch) v ≡ decide (depth_rules (grid_of n table)) v
    unfolding correction_rules
    after-stages v = stages-kept (correction_stages n table lent output scratch) _ _ v m kept.kept ∙ stage-last _ v

    pub correction-deep : {deep : ℕ} → deep ≡ first_deep_of (grid_of n table) → deep < n → CorrectionLeft (refused 12 deep) scratch lent output
    unfolding corrections_leaves grid_of
    correction-deep e h = left_at _ (after-stages _ ∙ deep-refused (grid_of n table) _ (first-deep (grid_of n table) (rw (sym e) h)) ∙ ap (refused 12) (sym e))

    -- every rule is kept, and the work is done
    pub correction-accepts : n ≤ first_deep_of (grid_of n table) → {k : ℕ} {w a t : List ℕ} → k ≡ changed_total (grid_of n table) (grid_of n (corrected_table n table)) → w ≡ replicate (length scratch) 0
        → a ≡ correction_answer (grid_of n table) → t ≡ corrected_table n table → CorrectionLeft (accepted k) w a t
    unfolding corrections_leaves grid_of
    correction-accepts e i j l o =
        let left = left_at _ (after-stages _ ∙ deep-kept (grid_of n table) _ (first-none (grid_of n table) e)) in
        record { outcome = ap accepted i ∙ left.outcome; work = j ∙ left.work; answer = l ∙ left.answer; corrected = o ∙ left.corrected }

  -- what the contract's equations mean. A slice's bytes are below 256
  pub correction-means : ((j : ℕ) → j < length table → get_or table j 0 < 256) → {v : Verdict} {w a t : List ℕ} → CorrectionLeft v w a t → CorrectionSays n table a t v
  correction-means bytes x = record { least = λ k e. rw (x.answer, x.corrected) (corrections-accepted n table lent output scratch k (sym x.outcome ∙ e) bytes).0 }
