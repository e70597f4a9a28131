-- A record written from a row, and the row of a record.
-- Assumes nothing.
use mathlib.Core.Path.{◌≡◌, refl, sym, ap, ap₂, ◌∙◌, fun_ext}
use mathlib.Core.List.{List, [], ◌∷◌, ◌++◌}
use Prim.Native.Nat.{ℕ, ◌+◌, ◌-◌, ◌≤◌, ◌<◌}
use native.Mathlib.Nat.{pos_of_ne-zero}
use native.Mathlib.Decide.{dec_le}
use native.Mathlib.Omega.{arith}
use lib.Dec.{T}
use lib.ListN.{length, get_or, take, drop, length-drop, take-append-drop}
use lib.Seq.{get_or-take, get_or-drop, length-take-le, take-add, drop-cons}
use Rattle.below.specs.Below.{◌<?◌, isnt}
use Rattle.fields.specs.Record.{little_endian, tag_of, start_of, span_of, grade_of, is_call_code, cell_of, code_at}
use Rattle.fields.specs.Writing.{bytes_of, cell_bytes, calls_start_of, calls_span_of, cut, laid_out, record_of}
use Rattle.records.specs.Rules.{is_out_of_frame, has_stray_bits, has_unknown_call, has_open_end}
use Rattle.below.proofs.BelowLaws.{isnt-isnt, neither, not-both, none-at, if-ind, if-true, if-false, =?-eq, eq-=?, isnt-=?, <?-lt, lt-<?, isnt-<?, le-isnt, le-≤?}
use Rattle.fields.proofs.FieldLaws.{code_at-in, code_at-out}
use Rattle.fields.proofs.ByteLaws.{bytes-again, number-two, number-four, cell-small, length-cell_bytes, code-written, cell_bytes-again}
use Rattle.records.proofs.ExtentLaws.{Extent, extent-of, extent-one, calls, call-of, no_call, hole-of}

-- ---- a record's bytes by its fields

pub length-laid_out : (t f s g : ℕ) (codes : ℕ → ℕ) → length (laid_out t f s g codes) ≡ 32
unfolding laid_out bytes_of
length-laid_out t f s g codes = let e = length-cell_bytes codes in omega arith

laid_cell : (t f s g : ℕ) (codes : ℕ → ℕ) → ((i : ℕ) → i < 96 → codes i < 4) → (i : ℕ) → i < 96 → cell_of (laid_out t f s g codes) i ≡ codes i
unfolding laid_out bytes_of
laid_cell t f s g codes small i h = code-written (bytes_of 4 t ++ bytes_of 2 f ++ s ∷ g ∷ []) codes refl small i h

-- ---- record, row, record

-- the record breaks none of rules 4, 5, 6 and 7
pub record Sound (n : ℕ) (r : List ℕ) : Type 0 where
  pub frame : T (isnt (is_out_of_frame n r))
  pub bits : T (isnt (has_stray_bits r))
  pub codes : T (isnt (has_unknown_call r))
  pub ends : T (isnt (has_open_end r))

module _ (n : ℕ) (r : List ℕ) (x : Sound n r) where
  pub sound-narrow : span_of r ≤ 96
  unfolding is_out_of_frame
  sound-narrow = isnt-<? _ _ (neither _ _ (neither _ _ x.frame).0).0

  pub sound-fits : start_of r + span_of r ≤ n
  unfolding is_out_of_frame
  sound-fits = isnt-<? _ _ (neither _ _ (neither _ _ x.frame).0).1

  pub sound_empty : span_of r ≡ 0 → start_of r ≡ 0
  unfolding is_out_of_frame
  sound_empty e = =?-eq _ _ (isnt-isnt _ (not-both _ _ (neither _ _ x.frame).1 (eq-=? _ _ e)))

  pub sound-grade : grade_of r ≤ 15
  unfolding has_stray_bits
  sound-grade = isnt-<? _ _ (neither _ _ x.bits).0

  pub sound-after : (k : ℕ) → span_of r ≤ k → k < 96 → cell_of r k ≡ 0
  unfolding has_stray_bits
  sound-after k a b = =?-eq _ _ (isnt-isnt _ (not-both _ _ (none-at 96 _ (neither _ _ x.bits).1 k b) (le-≤? _ _ a)))

  pub sound-small : (k : ℕ) → k < span_of r → cell_of r k ≤ 2
  unfolding has_unknown_call
  sound-small k h =
      let ne = isnt-=? (cell_of r k) 3 (none-at (span_of r) _ x.codes k h) in
      let b = cell-small r k in
      elim (dec_le (cell_of r k) 2) [ yes l ↦ l | no l ↦ absurd (ne (omega arith)) ]

  pub sound-first : 0 < span_of r → T (is_call_code (cell_of r 0))
  unfolding has_open_end
  sound-first h = call-of _ (pos_of_ne-zero (isnt-=? (cell_of r 0) 0 (neither _ _ (not-both _ _ x.ends (lt-<? 0 _ h))).0)) (sound-small 0 h)

  pub sound-last : 0 < span_of r → T (is_call_code (cell_of r (span_of r - 1)))
  unfolding has_open_end
  sound-last h =
      call-of _ (pos_of_ne-zero (isnt-=? (cell_of r (span_of r - 1)) 0 (neither _ _ (not-both _ _ x.ends (lt-<? 0 _ h))).1)) (sound-small (span_of r - 1) (omega arith))

  -- the calls of a sound record start and reach as its fields say
  pub sound-extent : Extent n (calls (code_at r)) (start_of r) (span_of r)
  sound-extent = record {
    fits = sound-fits;
    none = sound_empty;
    first = λ h. let e : start_of r - start_of r ≡ 0 = omega arith in rw (code_at-in r (start_of r) (omega arith) (omega arith), e) (sound-first h);
    last = λ h.
        let e : start_of r + (span_of r - 1) - start_of r ≡ span_of r - 1 = omega arith in
        rw (code_at-in r (start_of r + (span_of r - 1)) (omega arith) (omega arith), e) (sound-last h);
    before = λ c l. no_call (code_at r c) (code_at-out r c (λ a. omega arith));
    after = λ c l k. no_call (code_at r c) (code_at-out r c (λ a. l));
  }

  cut_again : (i : ℕ) → i < 96 → cut (start_of r) (span_of r) (code_at r) i ≡ cell_of r i
  unfolding cut
  cut_again i h =
      if-ind (λ (k : ℕ). k ≡ cell_of r i) (i <? span_of r)
      (λ t. let l = <?-lt i (span_of r) t in code_at-in r (start_of r + i) (omega arith) (omega arith) ∙ ap (cell_of r) (omega arith))
      (λ t. sym (sound-after i (isnt-<? i (span_of r) t) h))

module _ (r : List ℕ) (whole : length r ≡ 32) (bytes : (i : ℕ) → i < 32 → get_or r i 0 < 256) where
  parts : take 4 r ++ take 2 (drop 4 r) ++ get_or r 6 0 ∷ get_or r 7 0 ∷ drop 8 r ≡ r
  parts =
      let d : drop 6 r ≡ get_or r 6 0 ∷ get_or r 7 0 ∷ drop 8 r =
      drop-cons r 6 0 (omega arith) ∙ ap (λ (x : List ℕ). get_or r 6 0 ∷ x) (drop-cons r 7 0 (omega arith)) in
      ap (λ (x : List ℕ). x ++ get_or r 6 0 ∷ get_or r 7 0 ∷ drop 8 r) (sym (take-add 4 2 r)) ∙ ap (λ (x : List ℕ). take 6 r ++ x) (sym d) ∙ take-append-drop 6 r

  -- the k bytes from byte a on, read as a number and written again
  field-again : (k a : ℕ) → a + k ≤ 32 → bytes_of k (little_endian (take k (drop a r))) ≡ take k (drop a r)
  field-again k a h =
      let d = length-drop a r in
      let l : length (take k (drop a r)) ≡ k = length-take-le k (drop a r) (omega arith) in
      ap (λ (j : ℕ). bytes_of j (little_endian (take k (drop a r)))) (sym l)
      ∙ bytes-again (take k (drop a r)) (λ i m. let g : i < k = omega arith in rw (get_or-take k (drop a r) i 0 g, get_or-drop a r i 0) (bytes (a + i) (omega arith)))

  -- a sound record of 32 bytes, written again from its tag, its grade and its codes
  pub record-again : (n : ℕ) → Sound n r → record_of n (tag_of r) (grade_of r) (code_at r) ≡ r
  unfolding record_of laid_out tag_of start_of span_of grade_of
  record-again n x =
      let row = code_at r in
      let one = extent-one (extent-of n row) (sound-extent n r x) in
      ap₂ (λ (f s : ℕ). laid_out (tag_of r) f s (grade_of r) (cut f s row)) one.0 one.1
      ∙ ap₂ (λ (a b : List ℕ). a ++ b ++ span_of r ∷ grade_of r ∷ cell_bytes (cut (start_of r) (span_of r) row)) (field-again 4 0 (omega arith)) (field-again 2 4 (omega arith))
      ∙ ap (λ (c : List ℕ). take 4 r ++ take 2 (drop 4 r) ++ span_of r ∷ grade_of r ∷ c) (cell_bytes-again r (cut (start_of r) (span_of r) row) whole bytes (cut_again n r x))
      ∙ parts

-- ---- row, record, row

pub length-record_of : (n t g : ℕ) (row : ℕ → ℕ) → length (record_of n t g row) ≡ 32
unfolding record_of
length-record_of n t g row = length-laid_out t _ _ g _

pub tag-record_of : (n t g : ℕ) (row : ℕ → ℕ) → t < 4294967296 → tag_of (record_of n t g row) ≡ t
unfolding record_of laid_out tag_of bytes_of
tag-record_of n t g row h = number-four t h

pub span-record_of : (n t g : ℕ) (row : ℕ → ℕ) → span_of (record_of n t g row) ≡ calls_span_of n row
unfolding record_of laid_out span_of bytes_of
span-record_of n t g row = refl

pub grade-record_of : (n t g : ℕ) (row : ℕ → ℕ) → grade_of (record_of n t g row) ≡ g
unfolding record_of laid_out grade_of bytes_of
grade-record_of n t g row = refl

pub cut_in : (f s : ℕ) (row : ℕ → ℕ) (i : ℕ) → i < s → cut f s row i ≡ row (f + i)
unfolding cut
cut_in f s row i l = if-true (i <? s) _ _ (lt-<? i s l)

pub cut_out : (f s : ℕ) (row : ℕ → ℕ) (i : ℕ) → s ≤ i → cut f s row i ≡ 0
unfolding cut
cut_out f s row i l = if-false (i <? s) _ _ (le-isnt i s l)

module _ (n t g : ℕ) (row : ℕ → ℕ) (wide : n ≤ 128) where
  pub start-record_of : start_of (record_of n t g row) ≡ calls_start_of n row
  unfolding record_of laid_out start_of bytes_of
  start-record_of = let w = (extent-of n row).fits in number-two (calls_start_of n row) (omega arith)

  module _ (small : (c : ℕ) → c < n → row c ≤ 2) where
    cut_small : (i : ℕ) → cut (calls_start_of n row) (calls_span_of n row) row i < 4
    unfolding cut
    cut_small i =
        let w = (extent-of n row).fits in
        if-ind (λ (k : ℕ). k < 4) (i <? calls_span_of n row)
        (λ s. let l = <?-lt i (calls_span_of n row) s in let h = small (calls_start_of n row + i) (omega arith) in omega arith)
        (λ s. omega arith)

    pub cell-record_of : (i : ℕ) → i < 96 → cell_of (record_of n t g row) i ≡ cut (calls_start_of n row) (calls_span_of n row) row i
    unfolding record_of
    cell-record_of i h = laid_cell t _ _ g (cut (calls_start_of n row) (calls_span_of n row) row) (λ i l. cut_small i) i h

    -- the code of a row's record at each column is the row's
    pub row-again : calls_span_of n row ≤ 96 → (c : ℕ) → c < n → code_at (record_of n t g row) c ≡ row c
    row-again narrow c h =
        let r = record_of n t g row in
        let a = start-record_of in
        let b = span-record_of n t g row in
        let x = extent-of n row in
        elim (dec_le (calls_start_of n row) c) [
          | no l ↦ code_at-out r c (λ q. omega arith) ∙ sym (hole-of (row c) (small c h) (x.before c (omega arith)))
          | yes l ↦ elim (dec_le (calls_start_of n row + calls_span_of n row) c) [
            | yes k ↦ code_at-out r c (λ q. omega arith) ∙ sym (hole-of (row c) (small c h) (x.after c k h))
            | no k ↦
                code_at-in r c (omega arith) (omega arith)
                ∙ cell-record_of (c - start_of r) (omega arith)
                ∙ cut_in _ _ row (c - start_of r) (omega arith)
                ∙ ap row (omega arith)
          ]
        ]

-- ---- rows alike give the same record

module _ (n : ℕ) (row other : ℕ → ℕ) (same : (c : ℕ) → c < n → row c ≡ other c) where
  pub extent-same : (f s : ℕ) → Extent n (calls row) f s → Extent n (calls other) f s
  extent-same f s x =
      let w = x.fits in
      record {
        fits = w;
        none = x.none;
        first = λ h. rw (← same f (omega arith)) (x.first h);
        last = λ h. rw (← same (f + (s - 1)) (omega arith)) (x.last h);
        before = λ c l. rw (← same c (omega arith)) (x.before c l);
        after = λ c l k. rw (← same c k) (x.after c l k);
      }

  pub calls_same : (calls_start_of n row ≡ calls_start_of n other) × (calls_span_of n row ≡ calls_span_of n other)
  calls_same = extent-one (extent-same _ _ (extent-of n row)) (extent-of n other)

  cut-same : (f s : ℕ) → f + s ≤ n → (i : ℕ) → cut f s row i ≡ cut f s other i
  cut-same f s w i = elim (dec_le s i) [
    | yes l ↦ cut_out f s row i l ∙ sym (cut_out f s other i l)
    | no l ↦ cut_in f s row i (omega arith) ∙ same (f + i) (omega arith) ∙ sym (cut_in f s other i (omega arith))
  ]

  pub record_of-same : (t g : ℕ) → record_of n t g row ≡ record_of n t g other
  unfolding record_of
  record_of-same t g =
      let f = calls_start_of n row in
      let s = calls_span_of n row in
      ap (laid_out t f s g) (fun_ext (cut-same f s (extent-of n row).fits))
      ∙ ap₂ (λ (f s : ℕ). laid_out t f s g (cut f s other)) calls_same.0 calls_same.1
