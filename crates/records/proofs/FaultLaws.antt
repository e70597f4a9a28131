-- A record's rules: 8 by a switch, what 4 says of the span, and what 6 and 7 leave of 8.
-- Assumes nothing.
use mathlib.Core.Path.{◌≡◌, refl}
use mathlib.Core.Bool.{Bool, true, false}
use mathlib.Core.List.{List}
use Prim.Native.Nat.{ℕ, ◌-◌, ◌≤◌, ◌<◌}
use native.Mathlib.Nat.{zero-add}
use native.Mathlib.Omega.{arith}
use lib.Dec.{T}
use Rattle.below.specs.Below.{any_below, ◌=?◌, ◌<?◌, ◌and◌}
use Rattle.fields.specs.Record.{span_of, is_call_code, cell_of}
use Rattle.fields.specs.Table.{record_bytes_at, start_at, tag_at}
use Rattle.records.specs.Outcome.{Verdict}
use Rattle.records.specs.Rules.{decide, is_out_of_frame, has_unknown_call, has_open_end, gapped, earlier_rules, span_rules, record_rules, gapless_rules}
use Rattle.records.specs.Algorithm.Kept.{cell_rules, span_rules_of, rules_of}
use Rattle.below.proofs.BelowLaws.{fails, isnt-<?, neither, eq-=?, both, or_left, or_right, any_below-of, lt-<?}
use Rattle.fields.proofs.ByteLaws.{cell-small}
use Rattle.below.proofs.SearchLaws.{false-T}
use Rattle.records.proofs.ExtentLaws.{Extent, call-of, gap_within}

-- the rules by a switch: those of the record by itself, in which 8 is broken only where the switch is on, then those that look at earlier records
pub switched : (gapless : Bool) (n : ℕ) (table : List ℕ) (i : ℕ) (v : Verdict)
    → decide (rules_of gapless n table i) v ≡ decide (span_rules_of gapless n (record_bytes_at table i) i) (decide (earlier_rules (start_at table) (tag_at table) i) v)
unfolding rules_of gapless_rules record_rules span_rules span_rules_of cell_rules decide ◌and◌
switched true n table i v = refl
switched false n table i v = refl

-- a record that keeps 4 has no more than its 96 cells
pub frame-narrow : (n : ℕ) (r : List ℕ) → is_out_of_frame n r ≡ false → span_of r ≤ 96
unfolding is_out_of_frame
frame-narrow n r e = isnt-<? _ _ (neither _ _ (neither _ _ (fails refl e)).0).0

module _ (r : List ℕ) (known : has_unknown_call r ≡ false) (shut : has_open_end r ≡ false) where
  -- a cell of the span that is not a hole is a call
  span-call : (k : ℕ) → k < span_of r → (cell_of r k ≡ 0 → ⊥) → T (is_call_code (cell_of r k))
  unfolding has_unknown_call
  span-call k h f =
      let small = cell-small r k in
      let no-three : cell_of r k ≡ 3 → ⊥ = λ e. false-T known (any_below-of (span_of r) (λ k. cell_of r k =? 3) k h (eq-=? _ _ e)) in
      call-of (cell_of r k) (omega arith) (omega arith)

  -- the first and last cells of the span are calls
  pub span-extent : Extent (span_of r) (λ k. is_call_code (cell_of r k)) 0 (span_of r)
  unfolding has_open_end
  span-extent = record {
    fits = omega arith;
    none = λ e. omega arith;
    first = λ h. span-call 0 h (λ e. false-T shut (both (0 <? span_of r) _ (lt-<? 0 (span_of r) h) (or_left (cell_of r 0 =? 0) _ (eq-=? _ _ e))));
    last = λ h.
        rw zero-add
        (span-call (span_of r - 1) (omega arith)
        (λ e. false-T shut (both (0 <? span_of r) _ (lt-<? 0 (span_of r) h) (or_right (cell_of r 0 =? 0) _ (eq-=? _ _ e)))));
    before = λ c h. absurd (omega arith);
    after = λ c h l. absurd (omega arith);
  }

  -- a hole of the span lies between two calls
  pub gapped-holes : gapped r ≡ any_below (span_of r) (λ k. cell_of r k =? 0)
  unfolding gapped
  gapped-holes = simp zero-add at (gap_within (span_of r) (cell_of r) 0 (span_of r) span-extent)
