-- The sections of an answer, and its length.
-- Assumes nothing.
use mathlib.Core.Path.{◌≡◌, sym, ap, ◌∙◌}
use mathlib.Core.List.{List, ◌++◌}
use Prim.Native.Nat.{ℕ, suc, ◌+◌, ◌*◌, ◌<◌}
use native.Mathlib.Nat.{mul-le-mul_right}
use native.Mathlib.Omega.{arith}
use lib.ListN.{length, get_or, length-append, get_or-append}
use lib.Seq.{get_or-append-add}
use Rattle.below.specs.Below.{tab}
use Rattle.below.proofs.BelowLaws.{length-tab, get_or-tab}
use Rattle.below.proofs.RowLaws.{length-flat, flat-at}
use Rattle.conflicts.specs.Grid.{Grid}
use Rattle.conflicts.specs.Haplotypes.{haplotype, haplotypes}
use Rattle.conflicts.specs.Blocks.{block}
use Rattle.conflicts.specs.Answer.{answer_size, answer, keep_mark_in, haplotype_in, side_in, block_in}

module _ (g : Grid) (cols sides : List ℕ) (lc : length cols ≡ g.n) (ls : length sides ≡ g.m) where
  haps : List ℕ
  haps = haplotypes 2 g cols sides

  blocks : List ℕ
  blocks = tab g.m (block g cols sides)

  haps-length : length haps ≡ 2 * g.n
  unfolding haps haplotypes
  haps-length = length-flat g.n (λ h. haplotype g cols sides (suc h)) 2

  -- "an answer of 3n + 2m bytes"
  pub answer-length : length (answer g cols sides) ≡ answer_size g.m g.n
  unfolding answer answer_size haps blocks
  answer-length =
      let e = length-tab g.m (block g cols sides) in
      let h = haps-length in
      simp length-append (omega arith)

  -- past the keep marks
  past-marks : (k : ℕ) → get_or (answer g cols sides) (g.n + k) 0 ≡ get_or (haps ++ (sides ++ blocks)) k 0
  unfolding answer haps blocks
  past-marks k = ap (λ (a : ℕ). get_or (answer g cols sides) (a + k) 0) (sym lc) ∙ get_or-append-add cols (haps ++ (sides ++ blocks)) k 0

  -- past the haplotypes
  past-haps : (k : ℕ) → get_or (answer g cols sides) (g.n + (2 * g.n + k)) 0 ≡ get_or (sides ++ blocks) k 0
  past-haps k = past-marks (2 * g.n + k) ∙ ap (λ (a : ℕ). get_or (haps ++ (sides ++ blocks)) (a + k) 0) (sym haps-length) ∙ get_or-append-add haps (sides ++ blocks) k 0

  pub keep_mark-at : (c : ℕ) → c < g.n → keep_mark_in (answer g cols sides) c ≡ get_or cols c 0
  unfolding answer keep_mark_in
  keep_mark-at c h = get_or-append cols (haplotypes 2 g cols sides ++ (sides ++ tab g.m (block g cols sides))) 0 c (omega arith)

  pub haplotype-at : (h c : ℕ) → h < 2 → c < g.n → haplotype_in g.n (answer g cols sides) h c ≡ haplotype g cols sides (suc h) c
  unfolding haplotype_in haps haplotypes
  haplotype-at h c hh hc =
      let inside : h * g.n + c < length haps = omega (arith, haps-length, mul-le-mul_right g.n hh) in
      past-marks (h * g.n + c)
      ∙ get_or-append haps (sides ++ blocks) 0 (h * g.n + c) inside
      ∙ flat-at g.n (λ h. haplotype g cols sides (suc h)) 0 2 h c hh hc

  pub side-at : (i : ℕ) → i < g.m → side_in g.n (answer g cols sides) i ≡ get_or sides i 0
  unfolding side_in
  side-at i h = past-haps i ∙ get_or-append sides blocks 0 i (omega arith)

  pub block_at : (i : ℕ) → i < g.m → block_in g.m g.n (answer g cols sides) i ≡ block g cols sides i
  unfolding block_in blocks
  block_at i h =
      past-haps (g.m + i)
      ∙ ap (λ (a : ℕ). get_or (sides ++ blocks) (a + i) 0) (sym ls)
      ∙ get_or-append-add sides blocks i 0
      ∙ get_or-tab g.m (block g cols sides) i 0 h
