-- Matrices of one size, whatever their weights: with the same conflicts they have the same lawful sides, blocks, S and F, and with the same cells the same answers.
-- Assumes nothing.
use Rattle.std.specs.Prelude.{if◌then◌else◌}
use mathlib.Core.Path.{◌≡◌, refl, ap, ap₂, fun_ext}
use mathlib.Core.Bool.{Bool}
use mathlib.Core.List.{List, [], ◌++◌}
use Prim.Native.Nat.{ℕ, zero, suc, ◌<◌}
use lib.ListN.{get_or}
use Rattle.below.specs.Below.{bit, tab, concat, first_below, ◌=?◌, ◌and◌, ◌or◌, isnt}
use Rattle.fields.specs.Record.{is_call_code}
use Rattle.below.proofs.BelowLaws.{any-ext, all-ext}
use Rattle.below.proofs.RowLaws.{tab-ext}
use Rattle.conflicts.specs.Choice.{some, first, passing, first_least, marked, zeros, keep_all, keep_lists}
use Rattle.conflicts.specs.Grid.{Grid, with_rows, calls_conflict, conflict_on, conflict_on_kept}
use Rattle.conflicts.specs.Sides.{side_lists, same_side, lawful, error_free, first_sides_of}
use Rattle.conflicts.specs.Removal.{snp_keep_marks_of, fragment_keep_marks_of}
use Rattle.conflicts.specs.Haplotypes.{side_call, haplotype, haplotypes}
use Rattle.conflicts.specs.Blocks.{linked, reached, lowest, block}
use Rattle.conflicts.specs.Answer.{answer}

-- ---- the same links

reached-same : (m : ℕ) (p q : ℕ → ℕ → Bool) → ((i j : ℕ) → i < m → j < m → p i j ≡ q i j) → (i k : ℕ) → reached m p i k ≡ reached m q i k
unfolding reached
reached-same m p q h i zero = refl
reached-same m p q h i (suc k) =
    let e = reached-same m p q h i k in
    tab-ext m _ _ λ j lj. ap₂ (λ (a b : Bool). bit (a or b)) (ap (λ (r : List ℕ). marked r j) e)
    (any-ext m _ _ λ f lf. ap₂ ◌and◌ (ap (λ (r : List ℕ). marked r f) e) (h f j lf lj))

pub lowest-same : (m : ℕ) (p q : ℕ → ℕ → Bool) → ((i j : ℕ) → i < m → j < m → p i j ≡ q i j) → (i : ℕ) → lowest m p i ≡ lowest m q i
unfolding lowest
lowest-same m p q h i = ap (λ (r : List ℕ). first_below m (marked r)) (reached-same m p q h i m)

-- the same fragments kept
pub block-marks : (g : Grid) (cols frags sides : List ℕ) → ((i : ℕ) → i < g.m → marked frags i ≡ marked sides i) → tab g.m (block g cols frags) ≡ tab g.m (block g cols sides)
unfolding block linked
block-marks g cols frags sides same =
    tab-ext g.m _ _ λ i h. ap₂ (λ (b : Bool) (x : ℕ). if b then x else 255) (same i h)
    (lowest-same g.m _ _ (λ a b ha hb. rw (same a ha, same b hb)) i)

-- ---- the same conflicts

module _ (g : Grid) (cell : ℕ → ℕ → ℕ) (weight : ℕ → ℕ) (same : (i j c : ℕ) → i < g.m → j < g.m → c < g.n → calls_conflict (g.cell i c) (g.cell j c) ≡ calls_conflict (cell i c) (cell j c)) where
  kept-conflicts : (cols : List ℕ) (i j : ℕ) → i < g.m → j < g.m → conflict_on_kept g cols i j ≡ conflict_on_kept (with_rows g cell weight) cols i j
  unfolding conflict_on_kept conflict_on with_rows
  kept-conflicts cols i j hi hj = any-ext g.n _ _ λ c hc. ap (λ (b : Bool). marked cols c and b) (same i j c hi hj hc)

  lawful-conflicts : (cols sides : List ℕ) → lawful g cols sides ≡ lawful (with_rows g cell weight) cols sides
  unfolding lawful with_rows
  lawful-conflicts cols sides =
      all-ext g.m _ _ λ i hi. all-ext g.m _ _ λ j hj.
      ap (λ (b : Bool). isnt (same_side sides i j and b)) (kept-conflicts cols i j hi hj)

  block-conflicts : (cols sides : List ℕ) (i : ℕ) → block g cols sides i ≡ block (with_rows g cell weight) cols sides i
  unfolding block linked with_rows
  block-conflicts cols sides i =
      ap (λ (x : ℕ). if marked sides i then x else 255)
      (lowest-same g.m _ _ (λ a b ha hb. rw (kept-conflicts cols a b ha hb)) i)

  pub error_free-conflicts : (k : ℕ) (cols frags : List ℕ) → error_free k g cols frags ≡ error_free k (with_rows g cell weight) cols frags
  unfolding error_free
  error_free-conflicts k cols frags = ap (λ (p : List ℕ → Bool). some p (side_lists k frags)) (fun_ext (lawful-conflicts cols))

  pub first_sides_of-conflicts : (k : ℕ) (cols frags : List ℕ) → first_sides_of k g cols frags ≡ first_sides_of k (with_rows g cell weight) cols frags
  unfolding first_sides_of
  first_sides_of-conflicts k cols frags = ap (λ (p : List ℕ → Bool). first p (side_lists k frags) []) (fun_ext (lawful-conflicts cols))

  pub snp-conflicts : snp_keep_marks_of g ≡ snp_keep_marks_of (with_rows g cell weight)
  unfolding snp_keep_marks_of with_rows
  snp-conflicts = ap (λ (p : List ℕ → Bool). first_least zeros (passing p (keep_lists g.n)) []) (fun_ext (λ cols. error_free-conflicts 2 cols (keep_all g.m)))

  pub fragment-conflicts : fragment_keep_marks_of g ≡ fragment_keep_marks_of (with_rows g cell weight)
  unfolding fragment_keep_marks_of with_rows
  fragment-conflicts = ap (λ (p : List ℕ → Bool). first_least zeros (passing p (keep_lists g.m)) []) (fun_ext (error_free-conflicts 2 (keep_all g.n)))

-- ---- the same cells

module _ (g : Grid) (cell : ℕ → ℕ → ℕ) (weight : ℕ → ℕ) (same : (i c : ℕ) → i < g.m → c < g.n → g.cell i c ≡ cell i c) where
  conflicts : (i j c : ℕ) → i < g.m → j < g.m → c < g.n → calls_conflict (g.cell i c) (g.cell j c) ≡ calls_conflict (cell i c) (cell j c)
  conflicts i j c hi hj hc = ap₂ calls_conflict (same i c hi hc) (same j c hj hc)

  haplotype-cells : (cols sides : List ℕ) (s c : ℕ) → c < g.n → haplotype g cols sides s c ≡ haplotype (with_rows g cell weight) cols sides s c
  unfolding haplotype side_call with_rows
  haplotype-cells cols sides s c hc =
      ap (λ (l : List ℕ). if marked cols c then first is_call_code l 0 else 3)
      (tab-ext g.m _ _ λ i hi. ap (λ (x : ℕ). if get_or sides i 0 =? s then x else 0) (same i c hi hc))

  pub answer-cells : (cols sides : List ℕ) → answer g cols sides ≡ answer (with_rows g cell weight) cols sides
  unfolding answer haplotypes with_rows
  answer-cells cols sides =
      ap₂ (λ (h b : List ℕ). cols ++ (h ++ (sides ++ b)))
      (ap (λ (f : ℕ → List ℕ). concat (tab 2 f)) (fun_ext (λ h. tab-ext g.n _ _ (haplotype-cells cols sides (suc h)))))
      (tab-ext g.m _ _ λ i hi. block-conflicts g cell weight conflicts cols sides i)
