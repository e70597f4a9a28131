-- The bytes of a record that is written from a row, and what writing it did.
-- Assumes nothing.
use mathlib.Core.Path.{◌≡◌, refl, sym, ap, ap₂, fun_ext, ◌∙◌}
use mathlib.Core.Bool.{true, false}
use mathlib.Core.List.{List, [], ◌∷◌, ◌++◌}
use Prim.Native.Nat.{ℕ, ◌+◌, ◌*◌, ◌-◌, ◌^◌, ◌≤◌, ◌<◌}
use native.Mathlib.Decide.{dec_le}
use native.Mathlib.Omega.{arith}
use lib.Dec.{T, leb}
use lib.ListN.{length, take, drop, length-drop, get_or-eq_default}
use lib.Seq.{get_or-take, get_or-drop, length-take-le}
use Rattle.std.specs.Int.{w16, w32, to_le_bytes}
use Rattle.below.specs.Below.{◌≤?◌, isnt, any_below, sum_below}
use Rattle.fields.specs.Writing.{bytes_of, calls_start_of, calls_span_of, cell_bytes, codes_of, cut, laid_out, record_of, writable_row, writable, RecordWritten}
use Rattle.below.proofs.BelowLaws.{both, left-of, right_of, T-isnt, isnt-T, is_true, is_false, same_test, le-≤?, isnt-<?, ≤?-le, none-at, =?-eq, eq-=?}
use Rattle.writing.proofs.ScanLaws.{unknown}
use Rattle.records.proofs.PackLaws.{cut_in, cut_out}

-- ---- a row that is writable

module _ (row : List ℕ) (w : T (writable_row (length row) (codes_of row))) where
  pub writable-short : length row ≤ 128
  unfolding writable_row
  writable-short = ≤?-le _ _ (left-of _ _ (left-of _ _ w))

  pub writable-narrow : calls_span_of (length row) (codes_of row) ≤ 96
  unfolding writable_row
  writable-narrow = ≤?-le _ _ (right_of _ _ w)

  pub writable-small : (c : ℕ) → codes_of row c ≤ 2
  unfolding writable_row
  writable-small c = elim (dec_le (length row) c) [
    | yes l ↦ let e = get_or-eq_default row 0 {n = c} l in omega arith
    | no l ↦ isnt-<? _ _ (none-at (length row) _ (right_of _ _ (left-of _ _ w)) c (omega arith))
  ]

module _ (n : ℕ) (row : ℕ → ℕ) where
  pub wide-refused : 128 < n → false ≡ writable_row n row
  unfolding writable_row
  wide-refused h = is_false _ (isnt-T _ (λ t. let g = ≤?-le _ _ (left-of _ _ (left-of _ _ t)) in absurd (omega arith)))

  pub unknown-refused : T (any_below n (unknown row)) → false ≡ writable_row n row
  unfolding writable_row
  unknown-refused s = is_false _ (isnt-T _ (λ t. T-isnt _ (right_of _ _ (left-of _ _ t)) s))

  pub writable-by-span : (s : ℕ) → n ≤ 128 → T (isnt (any_below n (unknown row))) → s ≡ calls_span_of n row → leb s 96 ≡ writable_row n row
  unfolding writable_row ◌≤?◌
  writable-by-span s h t e = rw e (same_test _ _ (λ g. both _ _ (both _ _ (le-≤? _ _ h) t) g) (λ g. right_of _ _ g))

-- ---- a record's bytes

pub cell_byte_of-of : (codes : ℕ → ℕ) (b a0 a1 a2 a3 : ℕ) → a0 ≡ codes (4 * b) → a1 ≡ codes (4 * b + 1) → a2 ≡ codes (4 * b + 2) → a3 ≡ codes (4 * b + 3)
    → a0 + 4 * a1 + 16 * a2 + 64 * a3 ≡ sum_below 4 (λ q. 4 ^ q * codes (4 * b + q))
unfolding sum_below
cell_byte_of-of codes b a0 a1 a2 a3 e0 e1 e2 e3 = let z : codes (4 * b + 0) ≡ codes (4 * b) = ap codes (omega arith) in omega arith

-- byte b of the cells
abbrev pub cell_byte_of : (ℕ → ℕ) → ℕ → ℕ
cell_byte_of codes b = sum_below 4 (λ q. 4 ^ q * codes (4 * b + q))

-- the bytes of a number as the library has them
pub four-bytes : (t : ℕ) → to_le_bytes w32 t ≡ bytes_of 4 t
unfolding bytes_of
four-bytes t = ap₂ ◌∷◌ refl (ap₂ ◌∷◌ (omega arith) (ap₂ ◌∷◌ (omega arith) (ap₂ ◌∷◌ (omega arith) refl)))

pub two-bytes : (f : ℕ) → to_le_bytes w16 f ≡ bytes_of 2 f
unfolding bytes_of
two-bytes f = ap₂ ◌∷◌ refl (ap₂ ◌∷◌ (omega arith) refl)

-- a record from the 8 bytes before its cells, and those of the cells
pub laid : (t f s g : ℕ) (codes : ℕ → ℕ) (first rest : List ℕ) → first ≡ bytes_of 4 t ++ bytes_of 2 f ++ s ∷ g ∷ [] → rest ≡ cell_bytes codes → first ++ rest ≡ laid_out t f s g codes
unfolding laid_out bytes_of
laid t f s g codes first rest e d = rw (e, d) refl

-- the codes of a span, as a part of the row
pub cut-part : (row : List ℕ) (f s : ℕ) → f + s ≤ length row → cut f s (codes_of row) ≡ codes_of (take (f + s - f) (drop f row))
cut-part row f s h = fun_ext (λ i. elim (dec_le s i) [
  | yes l ↦
      let d = length-drop f row in
      let e = length-take-le (f + s - f) (drop f row) (omega arith) in
      cut_out f s (codes_of row) i l ∙ sym (get_or-eq_default (take (f + s - f) (drop f row)) 0 {n = i} (omega arith))
  | no l ↦
      cut_in f s (codes_of row) i (omega arith) ∙ sym (get_or-take (f + s - f) (drop f row) i 0 (omega arith) ∙ get_or-drop f row i 0)
])

-- whose codes are those of a writable row, or 0
pub part_small : (row : List ℕ) (f s : ℕ) → T (writable_row (length row) (codes_of row)) → f + s ≤ length row → (i : ℕ) → codes_of (take (f + s - f) (drop f row)) i ≤ 2
part_small row f s w h i = elim (dec_le s i) [
  | yes l ↦ let e = sym (ap (λ (codes : ℕ → ℕ). codes i) (cut-part row f s h)) ∙ cut_out f s (codes_of row) i l in omega arith
  | no l ↦ let e = sym (ap (λ (codes : ℕ → ℕ). codes i) (cut-part row f s h)) ∙ cut_in f s (codes_of row) i (omega arith) in let k = writable-small row w (f + i) in omega arith
]

-- ---- what writing a record did

module _ (tag grade : ℕ) (row old : List ℕ) where
  pub not-long : (length old ≡ 32 → ⊥) → RecordWritten tag grade row old old false
  not-long ne = record { answer = is_false _ (isnt-T _ (λ t. ne (=?-eq (length old) 32 (left-of _ _ t)))); bytes = refl }

  pub not-graded : 15 < grade → RecordWritten tag grade row old old false
  unfolding writable
  not-graded h = record { answer = is_false _ (isnt-T _ (λ s. let g = ≤?-le grade 15 (left-of _ _ (right_of _ _ s)) in absurd (omega arith))); bytes = refl }

  pub not-writable : T (isnt (writable_row (length row) (codes_of row))) → RecordWritten tag grade row old old false
  unfolding writable
  not-writable t = record { answer = is_false _ (isnt-T _ (λ s. T-isnt _ t (right_of _ _ (right_of _ _ s)))); bytes = refl }

  pub written : (new : List ℕ) (f s : ℕ) → length old ≡ 32 → grade ≤ 15 → T (writable_row (length row) (codes_of row)) → f ≡ calls_start_of (length row) (codes_of row) → s ≡ calls_span_of (length row) (codes_of row)
      → new ≡ laid_out tag f s grade (cut f s (codes_of row)) → RecordWritten tag grade row old new true
  unfolding record_of writable
  written new f s e low w d g h = record {
    answer = is_true _ (both _ _ (eq-=? _ _ e) (both _ _ (le-≤? _ _ low) w));
    bytes = h ∙ ap₂ (λ (f s : ℕ). laid_out tag f s grade (cut f s (codes_of row))) d g;
  }
