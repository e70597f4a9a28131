-- The record of a writable grade and row breaks none of rules 4 to 7; the row of such a record is writable, and gapped exactly if the record is.
-- Assumes nothing.
use mathlib.Core.Path.{◌≡◌, sym, ap, ◌∙◌}
use mathlib.Core.List.{List}
use Prim.Native.Nat.{ℕ, ◌+◌, ◌-◌, ◌≤◌, ◌<◌}
use native.Mathlib.Decide.{dec_le}
use native.Mathlib.Omega.{arith}
use Rattle.below.specs.Below.{◌=?◌}
use Rattle.fields.specs.Record.{start_of, span_of, cell_of, code_at}
use Rattle.fields.specs.Writing.{calls_start_of, calls_span_of, record_of}
use Rattle.records.specs.Rules.{is_out_of_frame, has_stray_bits, has_unknown_call, has_open_end, gap_in, gapped}
use Rattle.below.proofs.BelowLaws.{is_false, isnt-or, isnt-and, T-isnt-isnt, none_of, any-ext, =?-eq, eq-=?, ne-isnt, le-isnt, <?-lt, ≤?-le}
use Rattle.records.proofs.ExtentLaws.{Extent, extent-of, extent-one, calls, call-range, gap_within}
use Rattle.fields.proofs.FieldLaws.{code_at-in, code_at-out}
use Rattle.records.proofs.FaultLaws.{span-extent}
use Rattle.records.proofs.PackLaws.{Sound, sound-small, sound-extent, span-record_of, grade-record_of, start-record_of, cell-record_of, cut_in, cut_out, extent-same}

-- ---- the row of a sound record

module _ (n : ℕ) (r : List ℕ) (x : Sound n r) where
  pub sound-row-start : calls_start_of n (code_at r) ≡ start_of r
  sound-row-start = (extent-one (extent-of n (code_at r)) (sound-extent n r x)).0

  pub sound-row-span : calls_span_of n (code_at r) ≡ span_of r
  sound-row-span = (extent-one (extent-of n (code_at r)) (sound-extent n r x)).1

  pub sound-row-small : (c : ℕ) → code_at r c ≤ 2
  sound-row-small c = elim (dec_le (start_of r) c) [
    | no l ↦ let e = code_at-out r c (λ h. absurd (l h)) in omega arith
    | yes l ↦ elim (dec_le (start_of r + span_of r) c) [
      | yes h ↦ let e = code_at-out r c (λ k. h) in omega arith
      | no h ↦ let e = code_at-in r c l (omega arith) in let s = sound-small n r x (c - start_of r) (omega arith) in omega arith
    ]
  ]

  cells-extent : Extent (span_of r) (calls (cell_of r)) 0 (span_of r)
  cells-extent = span-extent r (sym (is_false _ x.codes)) (sym (is_false _ x.ends))

  pub sound-gapped : gapped r ≡ gap_in n (code_at r)
  unfolding gapped
  sound-gapped =
      gap_within (span_of r) (cell_of r) 0 (span_of r) cells-extent
      ∙ any-ext (span_of r) _ _ (λ k l. ap (λ (z : ℕ). z =? 0) (sym (code_at-in r (start_of r + k) (omega arith) (omega arith) ∙ ap (cell_of r) (omega arith))))
      ∙ sym (gap_within n (code_at r) (start_of r) (span_of r) (sound-extent n r x))

-- rows alike are gapped alike
pub gap_same : (n : ℕ) (row other : ℕ → ℕ) → ((c : ℕ) → c < n → row c ≡ other c) → gap_in n row ≡ gap_in n other
gap_same n row other same =
    let x = extent-of n row in
    let w = x.fits in
    gap_within n row _ _ x
    ∙ any-ext (calls_span_of n row) _ _ (λ k l. ap (λ (z : ℕ). z =? 0) (same (calls_start_of n row + k) (omega arith)))
    ∙ sym (gap_within n other _ _ (extent-same n row other same _ _ x))

-- ---- the record of a writable grade and row

module _ (n t g : ℕ) (row : ℕ → ℕ) (graded : g ≤ 15) (wide : n ≤ 128) (small : (c : ℕ) → c < n → row c ≤ 2) (narrow : calls_span_of n row ≤ 96) where
  cell_row : (k : ℕ) → k < calls_span_of n row → cell_of (record_of n t g row) k ≡ row (calls_start_of n row + k)
  cell_row k l = cell-record_of n t g row wide small k (omega arith) ∙ cut_in _ _ row k l

  pub record_of-sound : Sound n (record_of n t g row)
  unfolding is_out_of_frame has_stray_bits has_unknown_call has_open_end
  record_of-sound =
      let x = extent-of n row in
      let w = x.fits in
      let f = start-record_of n t g row wide in
      let s = span-record_of n t g row in
      let hole : (c : ℕ) → 0 < row c → row c ≡ 0 → ⊥ = λ c h e. omega arith in
      record {
        frame = isnt-or _ _ (isnt-or _ _ (le-isnt _ _ (omega arith)) (le-isnt _ _ (omega arith)))
            (isnt-and _ _ (λ q. T-isnt-isnt _ (eq-=? _ _ (f ∙ x.none (sym s ∙ =?-eq _ _ q)))));
        bits = isnt-or _ _ (rw (grade-record_of n t g row) (le-isnt _ _ graded))
            (none_of 96 _ (λ k l. isnt-and _ _ (λ q. let h = ≤?-le _ _ q in T-isnt-isnt _ (eq-=? _ _ (cell-record_of n t g row wide small k l ∙ cut_out _ _ row k (omega arith))))));
        codes = none_of (span_of (record_of n t g row)) _ (λ k l.
            ne-isnt _ _ (λ e. let c = cell_row k (omega arith) in let h = small (calls_start_of n row + k) (omega arith) in omega arith));
        ends = isnt-and _ _ (λ q.
            let h = <?-lt _ _ q in
            let a = cell_row 0 (omega arith) in
            let z : calls_start_of n row + 0 ≡ calls_start_of n row = omega arith in
            let u = call-range _ (x.first (omega arith)) in
            let b = cell_row (span_of (record_of n t g row) - 1) (omega arith) in
            let v = call-range _ (x.last (omega arith)) in
            isnt-or _ _ (ne-isnt _ _ (λ e. hole (calls_start_of n row) u.0 (sym (ap row z) ∙ sym a ∙ e)))
            (ne-isnt _ _ (λ e. hole _ v.0 (ap (λ (k : ℕ). row (calls_start_of n row + (k - 1))) (sym s) ∙ sym b ∙ e))));
      }
