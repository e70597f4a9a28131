-- A record's fields by its bytes, and its cells by their bits.
-- Assumes nothing.
use Rattle.std.specs.Prelude.{if◌then◌else◌}
use mathlib.Core.Path.{◌≡◌, refl, ◌∙◌, ap₂, sym, ap}
use mathlib.Core.List.{List, [], ◌∷◌}
use Prim.Native.Nat.{ℕ, ◌+◌, ◌*◌, ◌-◌, ◌/◌, ◌%◌, ◌^◌, ◌≤◌, ◌<◌, min}
use native.Mathlib.Omega.{arith}
use native.Mathlib.Decide.{dec_le}
use lib.ListN.{length, get_or, take, drop, replicate, length-replicate, get_or-replicate}
use lib.Seq.{get_or-drop, ext_get_or}
use Rattle.below.specs.Below.{tab, ◌<?◌, ◌≤?◌, ◌and◌}
use Rattle.fields.specs.Record.{little_endian, tag_of, start_of, span_of, cell_of, code_at}
use borrow.Rule.Slice.PartMut.{mid_of, put_mid, same_len_mid, mid_len}
use Rattle.below.proofs.FillLaws.{put-before, put-within, put-after}
use Rattle.fields.proofs.ByteLaws.{cell_in, cell-past, four}
use Rattle.below.proofs.BelowLaws.{length-tab, get_or-tab, if-ind, if-true, if-false, both, left-of, right_of, isnt-T, lt-<?, <?-lt, le-≤?, ≤?-le}

two_bytes : (l : List ℕ) → little_endian (take 2 l) ≡ get_or l 0 0 + 256 * get_or l 1 0
unfolding little_endian
two_bytes [] = refl
two_bytes (a ∷ []) = omega arith
two_bytes (a ∷ b ∷ l) = omega arith

pub tag-bytes : (r : List ℕ) → tag_of r ≡ get_or r 0 0 + 256 * get_or r 1 0 + 65536 * get_or r 2 0 + 16777216 * get_or r 3 0
unfolding tag_of little_endian
tag-bytes [] = refl
tag-bytes (a ∷ []) = omega arith
tag-bytes (a ∷ b ∷ []) = omega arith
tag-bytes (a ∷ b ∷ c ∷ []) = omega arith
tag-bytes (a ∷ b ∷ c ∷ d ∷ r) = omega arith

pub start-bytes : (r : List ℕ) → start_of r ≡ get_or r 4 0 + 256 * get_or r 5 0
unfolding start_of
start-bytes r = two_bytes (drop 4 r) ∙ ap₂ (λ (x y : ℕ). x + 256 * y) (get_or-drop 4 r 0 0) (get_or-drop 4 r 1 0)

-- ---- cells by their bytes

-- two bits for each cell
four-pow : (q : ℕ) → q < 4 → 2 ^ (2 * q) ≡ 4 ^ q
four-pow = four (λ q. 2 ^ (2 * q) ≡ 4 ^ q) refl refl refl refl

-- cell i by a shift
pub cell-shifted : (r : List ℕ) (i x : ℕ) → i < 96 → x ≡ get_or r (8 + i / 4) 0 → x / 2 ^ (2 * (i % 4)) % 4 ≡ cell_of r i
cell-shifted r i x h e = ap₂ (λ (x k : ℕ). x / k % 4) e (four-pow (i % 4) (omega arith)) ∙ sym (cell_in r i h)

-- the four cells of a byte
pub cell-of-byte : (r : List ℕ) (b q x : ℕ) → b < 24 → q < 4 → x ≡ get_or r (8 + b) 0 → x / 4 ^ q % 4 ≡ cell_of r (4 * b + q)
cell-of-byte r b q x h l e =
    ap₂ (λ (x k : ℕ). x / 4 ^ k % 4) (e ∙ ap (λ (b : ℕ). get_or r (8 + b) 0) (omega arith)) (omega arith) ∙ sym (cell_in r (4 * b + q) (omega arith))

-- ---- the code at a column

pub code_at-in : (r : List ℕ) (c : ℕ) → start_of r ≤ c → c < start_of r + span_of r → code_at r c ≡ cell_of r (c - start_of r)
unfolding code_at
code_at-in r c a b = if-true (start_of r ≤? c and c <? start_of r + span_of r) _ _ (both _ _ (le-≤? (start_of r) c a) (lt-<? c (start_of r + span_of r) b))

pub code_at-out : (r : List ℕ) (c : ℕ) → (start_of r ≤ c → start_of r + span_of r ≤ c) → code_at r c ≡ 0
unfolding code_at
code_at-out r c f =
    if-false (start_of r ≤? c and c <? start_of r + span_of r) _ _
    (isnt-T _ (λ t. let a = f (≤?-le _ _ (left-of _ _ t)) in let b = <?-lt _ _ (right_of _ _ t) in absurd (omega arith)))

-- no bytes have no calls
pub code_at-nil : (c : ℕ) → code_at [] c ≡ 0
unfolding start_of span_of little_endian
code_at-nil c = code_at-out [] c (λ h. h)

-- a cleared row of w columns, with the cells written from the start to the least of the span's end, that of the 96 cells, n and w
module _ (r : List ℕ) (n w : ℕ) {s k shown end first : ℕ} {cleared : List ℕ} (clear : cleared ≡ replicate w 0)
    (es : s ≡ start_of r) (ek : k ≡ min (span_of r) 96) (shows : shown ≡ min (s + k) n) (ends : end ≡ min shown (length cleared)) (firsts : first ≡ min s end) where
  as_wide : length cleared ≡ w
  as_wide = ap length clear ∙ length-replicate w 0

  -- a column that was written belongs to cell c - start
  written-code : (c : ℕ) → first ≤ c → c < end → cell_of r (c - first) ≡ code_at r c
  written-code c a b =
      let same : first ≡ s = omega arith in
      ap (λ (x : ℕ). cell_of r (c - x)) (same ∙ es) ∙ sym (code_at-in r c (omega arith) (omega arith))

  -- one that was not has no code
  unwritten-code : (c : ℕ) → c < n → c < w → (first ≤ c → end ≤ c) → code_at r c ≡ 0
  unfolding code_at
  unwritten-code c a b f =
      let wide = as_wide in
      elim (dec_le (start_of r + 96) c) [
        | yes past ↦ if-ind (λ (x : ℕ). x ≡ 0) (start_of r ≤? c and c <? start_of r + span_of r) (λ t. cell-past r (c - start_of r) (omega arith)) (λ t. refl)
        | no before ↦ code_at-out r c (λ started. elim (dec_le (start_of r + span_of r) c) [
          | yes out ↦ out
          | no within ↦ let g = f (omega arith) in absurd (omega arith)
        ])
      ]

  -- a column outside the part
  hole : (c : ℕ) → c < w → (first ≤ c → end ≤ c) → get_or cleared c 0 ≡ (if c <? n then code_at r c else 0)
  hole c b f =
      ap (λ (l : List ℕ). get_or l c 0) clear ∙ get_or-replicate w c 0 0 b
      ∙ if-ind (λ (x : ℕ). 0 ≡ x) (c <? n) (λ u. sym (unwritten-code c (<?-lt _ _ u) b f)) (λ u. refl)

  -- column by column: the row's codes
  pub row-filled : {cells : List ℕ} → cells ≡ tab (length (mid_of first (end - first) cleared)) (cell_of r) → put_mid first (end - first) cleared cells ≡ tab w (λ c. if c <? n then code_at r c else 0)
  row-filled {cells} e =
      let wide = as_wide in
      let is : cells ≡ tab (end - first) (cell_of r) = e ∙ ap (λ (k : ℕ). tab k (cell_of r)) (mid_len first end cleared (omega arith)) in
      let long : length cells ≡ end - first = ap length is ∙ length-tab (end - first) _ in
      let same = same_len_mid first (end - first) cleared cells (ap length e ∙ length-tab _ _) in
      ext_get_or 0 _ _ (same ∙ as_wide ∙ sym (length-tab w _)) (λ c h. elim (dec_le first c) [
        | no a ↦ put-before first end cleared cells (omega arith) (omega arith) long c (omega arith) ∙ hole c (omega arith) (λ g. absurd (a g))
        | yes a ↦ elim (dec_le (c + 1) end) [
          | no b ↦ put-after first end cleared cells (omega arith) (omega arith) long c (omega arith) ∙ hole c (omega arith) (λ g. omega arith)
          | yes b ↦
              put-within first end cleared cells (omega arith) (omega arith) long c a (omega arith)
              ∙ ap (λ (l : List ℕ). get_or l (c - first) 0) is
              ∙ get_or-tab (end - first) (cell_of r) (c - first) 0 (omega arith)
              ∙ written-code c a (omega arith)
              ∙ sym (if-true (c <? n) _ _ (lt-<? c n (omega arith)))
        ]
      ] ∙ sym (get_or-tab w (λ c. if c <? n then code_at r c else 0) c 0 (omega arith)))
