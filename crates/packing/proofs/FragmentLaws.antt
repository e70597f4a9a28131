-- A fragment's row as a part of the cells, and what the rows keep once no fragment breaks rule 5, 6, 17, 4, 9 or 13.
-- Assumes nothing.
use mathlib.Core.Path.{◌≡◌, refl, sym, ap, ap₂, subst, ◌∙◌}
use mathlib.Core.Logic.{inl, inr}
use mathlib.Core.Bool.{Bool}
use mathlib.Core.List.Memᴰ
use mathlib.Core.List.{List, [], ◌∷◌}
use Prim.Native.Nat.{ℕ, ◌+◌, ◌*◌, ◌-◌, ◌≤◌, ◌<◌}
use native.Mathlib.Nat.{add-sub_cancel_left, eq-zero-or-pos, pos_of_ne-zero}
use native.Mathlib.Omega.{arith}
use lib.Dec.{T}
use lib.ListN.{length, get_or, take, drop, length-drop}
use lib.Seq.{get_or-take, get_or-drop, length-take-le}
use Rattle.below.specs.Below.{◌=?◌, ◌<?◌, ◌and◌, isnt, any_below, tab, concat}
use Rattle.fields.specs.Writing.{calls_start_of, calls_end_of, calls_span_of, without_calls, record_of, codes_of, writable_row, writable, row_of}
use Rattle.records.specs.Outcome.{Verdict}
use Rattle.records.specs.Rules.{rule, decide, precedes, is_out_of_order, earlier_rules}
use Rattle.below.proofs.BelowLaws.{both, same_test, =?-eq, eq-=?, isnt-=?, isnt-<?, le-≤?, le-isnt, any-ext, none-at, none_of}
use Rattle.below.proofs.SearchLaws.{<?-false}
use Rattle.below.proofs.MemberLaws.{concat-of, tab-of}
use Rattle.records.proofs.RuleLaws.{NoneBroken, decide-append, unbroken, all-unbroken, rows-single}
use Rattle.records.proofs.ExtentLaws.{extent-of, none-called}
use Rattle.records.proofs.KeptLaws.{rule-unbroken}
use Rattle.records.proofs.PackLaws.{calls_same, record_of-same}
use Rattle.writing.proofs.ScanLaws.{start-le-end}
use Rattle.conflicts.specs.Services.{packed_start, packed_tag, ungraded_rules, fragment_rules}
use Rattle.packing.specs.Algorithm.Sizes.{FragmentsKept, Starts, fragments_rules}

-- ---- a row as a part of the cells

-- the n cells from one cell on
abbrev pub row_part : ℕ → List ℕ → ℕ → List ℕ
row_part n cells at = take (at + n - at) (drop at cells)

-- the part that starts at the row of fragment i
module _ (n : ℕ) (cells : List ℕ) (i : ℕ) {at : ℕ} (here : at ≡ i * n) (within : at + n ≤ length cells) where
  pub row-length : length (row_part n cells at) ≡ n
  row-length = let d = length-drop at cells in length-take-le (at + n - at) (drop at cells) (omega arith) ∙ add-sub_cancel_left at n

  row_at : (c : ℕ) → c < n → codes_of (row_part n cells at) c ≡ row_of n cells i c
  unfolding row_of
  row_at c l = get_or-take (at + n - at) (drop at cells) c 0 (omega arith) ∙ get_or-drop at cells c 0 ∙ ap (λ (k : ℕ). get_or cells (k + c) 0) here

  -- what looks only at the n codes of the part is the same for the row
  same_row : {A : Type 0} (f : ℕ → (ℕ → ℕ) → A) → f n (codes_of (row_part n cells at)) ≡ f n (row_of n cells i) → f (length (row_part n cells at)) (codes_of (row_part n cells at)) ≡ f n (row_of n cells i)
  same_row f e = ap (λ (k : ℕ). f k (codes_of (row_part n cells at))) row-length ∙ e

  pub row-unknown : any_below (length (row_part n cells at)) (λ c. 2 <? codes_of (row_part n cells at) c) ≡ any_below n (λ c. 2 <? row_of n cells i c)
  row-unknown = same_row (λ k row. any_below k (λ c. 2 <? row c)) (any-ext n _ _ (λ c l. ap (λ (x : ℕ). 2 <? x) (row_at c l)))

  pub row-span : calls_span_of (length (row_part n cells at)) (codes_of (row_part n cells at)) ≡ calls_span_of n (row_of n cells i)
  row-span = same_row calls_span_of (calls_same n _ _ row_at).1

  pub row-record : (t g : ℕ) → record_of (length (row_part n cells at)) t g (codes_of (row_part n cells at)) ≡ record_of n t g (row_of n cells i)
  row-record t g = same_row (λ k row. record_of k t g row) (record_of-same n _ _ row_at t g)

  pub row-writable : {g : ℕ} → g ≤ 15 → n ≤ 128 → ((c : ℕ) → c < n → row_of n cells i c ≤ 2) → calls_span_of n (row_of n cells i) ≤ 96 → T (writable (length (row_part n cells at)) g (codes_of (row_part n cells at)))
  unfolding writable writable_row
  row-writable graded wide small narrow =
      let e = row-length in
      let s = row-span in
      both _ _ (le-≤? _ _ graded)
      (both _ _
      (both _ _ (le-≤? _ _ (omega arith)) (rw row-unknown (none_of n _ (λ c l. le-isnt _ _ (small c l)))))
      (le-≤? _ _ (omega arith)))

  pub row-start : calls_start_of (length (row_part n cells at)) (codes_of (row_part n cells at)) ≡ packed_start n cells i
  row-start = same_row calls_start_of (calls_same n _ _ row_at).0

  -- its span, from its start and its end
  module _ {start end : ℕ} (starts : start ≡ packed_start n cells i) (ends : end ≡ calls_end_of (length (row_part n cells at)) (codes_of (row_part n cells at))) where
    pub start-within : start ≤ end
    start-within = let e = row-start in let l = start-le-end (length (row_part n cells at)) (codes_of (row_part n cells at)) in omega arith

    pub span-read : calls_span_of n (row_of n cells i) ≡ end - start
    unfolding calls_span_of
    span-read = sym (ap₂ ◌-◌ ends (starts ∙ sym row-start) ∙ row-span)

    -- whether it has a call, from its end
    pub empty-read : without_calls n (row_of n cells i) ≡ (end =? 0)
    empty-read =
        let x = extent-of n (row_of n cells i) in
        let s = span-read in
        let w = start-within in
        none-called n (row_of n cells i)
        ∙ same_test _ _
        (λ t. let e = =?-eq _ _ t in let z = x.none e in eq-=? _ _ (omega arith))
        (λ t. let e = =?-eq _ _ t in eq-=? _ _ (omega arith))

-- 13, from the starts of a fragment and of the one before it
pub order-read : (n : ℕ) (cells tags : List ℕ) (i : ℕ) {start last : ℕ} {fallen : Bool} → Starts n cells i start last
    → fallen ≡ (0 <? i and precedes start (packed_tag tags i) last (packed_tag tags (i - 1))) → is_out_of_order (packed_start n cells) (packed_tag tags) i ≡ fallen
unfolding is_out_of_order ◌and◌
order-read n cells tags i s e = elim (eq-zero-or-pos i) [
  | inl z ↦ let none = <?-false 0 i (omega arith) in rw none (sym (rw none at e))
  | inr pos ↦ rw (← s.here, ← s.before pos) (sym e)
]

-- ---- fragments that keep their rules

module _ {n : ℕ} {cells tags grades : List ℕ} (fragments : FragmentsKept n cells tags grades) (i : ℕ) (h : i < length tags) where
  kept_rule : NoneBroken (fragment_rules n cells tags grades i)
  unfolding fragments_rules
  kept_rule r m = unbroken (fragments_rules n cells tags grades) _ _ fragments.kept r (concat-of m (tab-of (fragment_rules n cells tags grades) (length tags) i h))

  -- 5
  pub kept-grade : get_or grades i 0 ≤ 15
  unfolding fragment_rules
  kept-grade = isnt-<? _ _ (kept_rule _ (Memᴰ.head refl))

  kept-ungraded : NoneBroken (ungraded_rules n cells tags i)
  unfolding fragment_rules
  kept-ungraded r m = kept_rule r (Memᴰ.tail m)

  -- 6
  pub kept_small : (c : ℕ) → c < n → row_of n cells i c ≤ 2
  unfolding ungraded_rules
  kept_small c l = isnt-<? _ _ (none-at n _ (kept-ungraded _ (Memᴰ.head refl)) c l)

  -- 17
  pub kept-calls : 0 < calls_span_of n (row_of n cells i)
  unfolding ungraded_rules
  kept-calls = pos_of_ne-zero (isnt-=? _ _ (subst (λ (b : Bool). T (isnt b)) (none-called n (row_of n cells i)) (kept-ungraded _ (Memᴰ.tail (Memᴰ.head refl)))))

  -- 4
  pub kept-narrow : calls_span_of n (row_of n cells i) ≤ 96
  unfolding ungraded_rules
  kept-narrow = isnt-<? _ _ (kept-ungraded _ (Memᴰ.tail (Memᴰ.tail (Memᴰ.head refl))))

  -- 9 and 13
  pub kept-earlier : NoneBroken (earlier_rules (packed_start n cells) (packed_tag tags) i)
  unfolding ungraded_rules
  kept-earlier r m = kept-ungraded r (Memᴰ.tail (Memᴰ.tail (Memᴰ.tail m)))

-- 17 alone decides of fragments that keep the other rules
pub calls-decide : (n : ℕ) (cells tags grades : List ℕ) {m : ℕ} (span : ℕ → ℕ) (v : Verdict) → length tags ≡ m → ((i : ℕ) → i < m → get_or grades i 0 ≤ 15) → ((i : ℕ) → i < m → (c : ℕ) → c < n → row_of n cells i c ≤ 2)
    → ((i : ℕ) → i < m → calls_span_of n (row_of n cells i) ≡ span i) → ((i : ℕ) → i < m → span i ≤ 96) → ((i : ℕ) → i < m → NoneBroken (earlier_rules (packed_start n cells) (packed_tag tags) i))
    → decide (fragments_rules n cells tags grades) v ≡ decide (tab m (λ i. rule 17 i (span i =? 0))) v
unfolding fragments_rules fragment_rules ungraded_rules
calls-decide n cells tags grades span v count graded small spans narrow earlier =
    ap (λ (k : ℕ). decide (concat (tab k (fragment_rules n cells tags grades))) v) count
    ∙ rows-single (fragment_rules n cells tags grades) (λ i. rule 17 i (span i =? 0)) _ v (λ i l w.
    let s = spans i l in
    let few = narrow i l in
    rule-unbroken _ _ w (le-isnt _ _ (graded i l))
    ∙ rule-unbroken _ _ w (none_of n _ (λ c k. le-isnt _ _ (small i l c k)))
    ∙ decide-append (rule 17 i _ ∷ []) _ w
    ∙ ap (decide (rule 17 i _ ∷ [])) (rule-unbroken _ _ w (le-isnt _ _ (omega arith)) ∙ all-unbroken _ w (earlier i l))
    ∙ ap (λ (b : Bool). decide (rule 17 i b ∷ []) w) (none-called n (row_of n cells i) ∙ ap (λ (k : ℕ). k =? 0) s))
