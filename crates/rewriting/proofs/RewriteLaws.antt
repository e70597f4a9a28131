-- The bytes of records that are written with the codes of a cell matrix.
-- Assumes nothing.
use mathlib.Core.Path.{◌≡◌, refl, sym, ap, subst, ◌∙◌}
use mathlib.Core.List.{List}
use Prim.Native.Nat.{ℕ, ◌+◌, ◌*◌, ◌/◌, ◌%◌, ◌≤◌, ◌<◌}
use native.Mathlib.Omega.{arith}
use lib.ListN.{get_or}
use Rattle.below.specs.Below.{tab, concat, ◌<?◌}
use Rattle.fields.specs.Record.{start_of, span_of, cell_of}
use Rattle.fields.specs.Table.{fragments, record_bytes_at}
use Rattle.below.proofs.BelowLaws.{if-true, if-false, lt-<?, le-isnt}
use Rattle.fields.proofs.ByteLaws.{cell-small}
use Rattle.below.proofs.RowLaws.{tab-ext, tab-again, flat-tab}
use Rattle.records.proofs.TableLaws.{length-record_bytes_at}
use Rattle.conflicts.specs.Answer.{rewritten_code, rewritten}
use Rattle.conflicts.proofs.CorrectedTableLaws.{rewritten-length}
use Rattle.rewriting.specs.Algorithm.Rewriting.{row_in, TwoBits, rewritten_table}

-- ---- one code

module _ (r cells : List ℕ) (i q : ℕ) where
  pub code-within : (x : ℕ) → TwoBits cells → q < span_of r → x ≡ get_or cells (i * 128 + (start_of r + q)) 0 → (x ≡ rewritten_code r (row_in cells i) q) × (x < 4)
  unfolding rewritten_code row_in
  code-within x two h e = (e ∙ sym (if-true (q <? span_of r) _ (cell_of r q) (lt-<? q (span_of r) h)), let s = two.small (i * 128 + (start_of r + q)) in omega arith)

  pub code-after : (x : ℕ) → span_of r ≤ q → x ≡ cell_of r q → (x ≡ rewritten_code r (row_in cells i) q) × (x < 4)
  unfolding rewritten_code
  code-after x h e = (e ∙ sym (if-false (q <? span_of r) (row_in cells i (start_of r + q)) _ (le-isnt q (span_of r) h)), let s = cell-small r q in omega arith)

-- ---- the table

module _ (table cells : List ℕ) where
  -- byte k of the table: that of record k / 32 at k % 32
  unfoldable pub new_byte_of : ℕ → ℕ
  new_byte_of k = get_or (rewritten (record_bytes_at table (k / 32)) (row_in cells (k / 32))) (k % 32) 0

  -- record i, written at once
  pub record-written : (i : ℕ) {part output : List ℕ} → part ≡ record_bytes_at table i → output ≡ tab 32 (λ b. get_or (rewritten part (row_in cells i)) b 0) → output ≡ tab 32 (λ b. new_byte_of (i * 32 + b))
  unfolding new_byte_of
  record-written i {part} e h =
      h ∙ tab-ext 32 _ _ (λ b l.
      let row : (i * 32 + b) / 32 ≡ i = omega arith in
      let place : (i * 32 + b) % 32 ≡ b = omega arith in
      rw (row, place, e) refl)

  pub records-written : tab (fragments table * 32) new_byte_of ≡ rewritten_table table cells
  unfolding new_byte_of rewritten_table
  records-written =
      flat-tab (fragments table) 32 (λ i b. get_or (rewritten (record_bytes_at table i) (row_in cells i)) b 0)
      ∙ ap concat (tab-ext (fragments table) _ _ λ i h.
      let r = rewritten (record_bytes_at table i) (row_in cells i) in
      subst (λ (w : ℕ). tab w (λ b. get_or r b 0) ≡ r) (rewritten-length (record_bytes_at table i) (row_in cells i) (length-record_bytes_at table i h)) (tab-again 0 r))
