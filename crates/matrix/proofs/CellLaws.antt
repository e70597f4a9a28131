-- The cell matrix of a table, row by row, and the weights of its fragments.
-- Assumes nothing.
use Rattle.std.specs.Prelude.{if◌then◌else◌}
use mathlib.Core.Path.{◌≡◌, refl, sym, ap, ap₂, ◌∙◌}
use mathlib.Core.Bool.{Bool}
use mathlib.Core.List.{List}
use Prim.Native.Nat.{ℕ, ◌+◌, ◌*◌, ◌/◌, ◌%◌, ◌<◌}
use native.Mathlib.Decide.{dec_lt}
use native.Mathlib.Omega.{arith}
use denote.Ref.{Bor}
use lib.ListN.{length}
use Rattle.below.specs.Below.{◌<?◌, ◌and◌}
use Rattle.below.proofs.BelowLaws.{if-ind, if-true, if-false, lt-<?, le-isnt, length-tab}
use Rattle.below.proofs.SearchLaws.{<?-true, <?-false}
use Rattle.below.proofs.TestLaws.{and-true, if-first}
use Rattle.fields.specs.Record.{grade_of, code_at}
use Rattle.fields.specs.Grades.{weights, weight_of}
use Rattle.fields.specs.Table.{fragments, record_bytes_at, part_start, part_length, Part}
use Rattle.fields.proofs.FieldLaws.{code_at-nil}
use Rattle.fields.proofs.PartLaws.{part-record, part-past}
use Rattle.matrix.specs.Algorithm.Cells.{table_cells, table_weight}

pub length-cells : (n : ℕ) (table : List ℕ) → length (table_cells n table) ≡ 16384
unfolding table_cells
length-cells n table = length-tab 16384 _

-- its entry at place k
abbrev pub table_cell : ℕ → List ℕ → ℕ → ℕ
table_cell n table k = if k / 128 <? fragments table and k % 128 <? n then code_at (record_bytes_at table (k / 128)) (k % 128) else 0

-- a row's entry, from the part that record_at gave
pub table-row : (n : ℕ) (t : Bor (List ℕ)) (i c : ℕ) (part : Bor (List ℕ)) → Part t (part_start t.now i) (part_length t.now i) part → c < 128
    → (if c <? n then code_at part.now c else 0) ≡ table_cell n t.now (128 * i + c)
table-row n t i c part p h =
    let m = fragments t.now in
    let q : i ≡ (128 * i + c) / 128 = omega arith in
    let r : c ≡ (128 * i + c) % 128 = omega arith in
    let place = ap₂ (λ (i c : ℕ). if i <? m and c <? n then code_at (record_bytes_at t.now i) c else 0) q r in
    elim (dec_lt i m) [
      | yes g ↦
          ap (λ (l : List ℕ). if c <? n then code_at l c else 0) (part-record t i part p g)
          ∙ ap (λ (b : Bool). if b then code_at (record_bytes_at t.now i) c else 0) (and-true (c <? n) (<?-true i m g))
          ∙ place
      | no g ↦
          ap (λ (l : List ℕ). if c <? n then code_at l c else 0) (part-past t i part p (omega arith))
          ∙ if-ind (λ x. x ≡ 0) (c <? n) (λ s. code_at-nil c) (λ s. refl)
          ∙ if-first (c <? n) (code_at (record_bytes_at t.now i) c) 0 (<?-false i m (omega arith))
          ∙ place
    ]

-- a fragment's weight, from the part that record_at gave
pub part-weight : (t : Bor (List ℕ)) (i : ℕ) (part : Bor (List ℕ)) → Part t (part_start t.now i) (part_length t.now i) part → weight_of (grade_of part.now) ≡ table_weight t.now i
unfolding table_weight grade_of weight_of weights
part-weight t i part p =
    let m = fragments t.now in
    let weighs : List ℕ → ℕ = λ r. weight_of (grade_of r) in
    elim (dec_lt i m) [
      | yes g ↦ ap weighs (part-record t i part p g) ∙ sym (if-true (i <? m) (weighs (record_bytes_at t.now i)) 1 (lt-<? i m g))
      | no g ↦ ap weighs (part-past t i part p (omega arith)) ∙ sym (if-false (i <? m) (weighs (record_bytes_at t.now i)) 1 (le-isnt i m (omega arith)))
    ]
