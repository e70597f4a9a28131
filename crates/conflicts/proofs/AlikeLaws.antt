-- More of SameLaws: matrices of one size with the same cells have the same coverage and gaps, and where the weights are the same too the same corrections.
-- Assumes nothing.
use Rattle.std.specs.Prelude.{if◌then◌else◌}
use mathlib.Core.Path.{◌≡◌, ap, ap₂, ◌∙◌, fun_ext}
use mathlib.Core.List.{List, []}
use Prim.Native.Nat.{ℕ, suc, ◌<◌}
use lib.ListN.{get_or}
use Rattle.below.specs.Below.{nth, isnt, ◌=?◌, ◌≤?◌, ◌and◌}
use Rattle.fields.specs.Record.{is_call_code}
use Rattle.below.proofs.BelowLaws.{all-ext, any-ext, sum-ext, count-ext}
use Rattle.records.proofs.SoundLaws.{gap_same}
use Rattle.conflicts.specs.Choice.{first_least, keep_all}
use Rattle.conflicts.specs.Grid.{Grid, with_rows, with_cells, gapless, stretch_covers, coverage}
use Rattle.conflicts.specs.Sides.{side_lists}
use Rattle.conflicts.specs.Corrections.{correction_cost, letter_weight, side_price, column_cost, cost, least_cost_sides_of, majority_letter, side_letter, corrected_cell, corrected}
use Rattle.conflicts.specs.Answer.{answer, corrected_grid, correction_answer}
use Rattle.conflicts.proofs.SameLaws.{answer-cells}

module _ (g : Grid) (cell : ℕ → ℕ → ℕ) (weight : ℕ → ℕ) where
  -- ---- the same weights, and the same cells at one column

  module _ (heavy : (i : ℕ) → i < g.m → g.weight i ≡ weight i) (c : ℕ) (same : (i : ℕ) → i < g.m → g.cell i c ≡ cell i c) where
    letter_weight-alike : (side : ℕ → ℕ) (s letter : ℕ) → letter_weight g side s c letter ≡ letter_weight (with_rows g cell weight) side s c letter
    unfolding letter_weight correction_cost with_rows
    letter_weight-alike side s letter = sum-ext g.m _ _ (λ i hi. ap₂ (λ (x w : ℕ). if side i =? s and x =? letter then w else 0) (same i hi) (heavy i hi))

    column_cost-alike : (k : ℕ) (side : ℕ → ℕ) → column_cost k g c side ≡ column_cost k (with_rows g cell weight) c side
    unfolding column_cost
    column_cost-alike k side = sum-ext k _ _ (λ s hs. ap₂ side_price (letter_weight-alike side (suc s) 1) (letter_weight-alike side (suc s) 2))

    pub corrected_cell-alike : (sides : List ℕ) (i : ℕ) → g.cell i c ≡ cell i c → corrected_cell g sides i c ≡ corrected_cell (with_rows g cell weight) sides i c
    unfolding corrected_cell side_letter with_rows
    corrected_cell-alike sides i e =
        ap₂ (λ (x y : ℕ). if is_call_code x then y else x) e (ap₂ majority_letter (letter_weight-alike (nth sides) (get_or sides i 0) 1) (letter_weight-alike (nth sides) (get_or sides i 0) 2))

  -- ---- the same cells at every column

  module _ (same : (i c : ℕ) → i < g.m → c < g.n → g.cell i c ≡ cell i c) where
    pub coverage-cells : (c : ℕ) → coverage g c ≡ coverage (with_rows g cell weight) c
    unfolding coverage stretch_covers with_rows
    coverage-cells c = count-ext g.m _ _ λ i hi. ap₂ ◌and◌
        (any-ext g.n _ _ (λ a ha. ap (λ (x : ℕ). a ≤? c and is_call_code x) (same i a hi ha)))
        (any-ext g.n _ _ (λ b hb. ap (λ (x : ℕ). c ≤? b and is_call_code x) (same i b hi hb)))

    pub gapless-cells : gapless g ≡ gapless (with_rows g cell weight)
    unfolding gapless with_rows
    gapless-cells = all-ext g.m _ _ (λ i hi. ap isnt (gap_same g.n (g.cell i) (cell i) (λ c hc. same i c hi hc)))

    -- and the same weights
    module _ (heavy : (i : ℕ) → i < g.m → g.weight i ≡ weight i) where
      pub cost-alike : (k : ℕ) (sides : List ℕ) → cost k g sides ≡ cost k (with_rows g cell weight) sides
      unfolding cost with_rows
      cost-alike k sides = sum-ext g.n _ _ (λ c hc. column_cost-alike heavy c (λ i hi. same i c hi hc) k (nth sides))

      pub least_cost_sides_of-alike : (k : ℕ) → least_cost_sides_of k g ≡ least_cost_sides_of k (with_rows g cell weight)
      unfolding least_cost_sides_of with_rows
      least_cost_sides_of-alike k = ap (λ (price : List ℕ → ℕ). first_least price (side_lists k (keep_all g.m)) []) (fun_ext (cost-alike k))

      pub correction_answer-alike : correction_answer g ≡ correction_answer (with_rows g cell weight)
      unfolding correction_answer corrected_grid corrected with_cells with_rows
      correction_answer-alike =
          let sides = least_cost_sides_of 2 g in
          answer-cells (corrected g sides) (corrected_cell (with_rows g cell weight) sides) weight (λ i c hi hc. corrected_cell-alike heavy c (λ i hi. same i c hi hc) sides i (same i c hi hc)) (keep_all g.n) sides
          ∙ ap (λ (l : List ℕ). answer (corrected (with_rows g cell weight) l) (keep_all g.n) l) (least_cost_sides_of-alike 2)
