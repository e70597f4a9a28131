-- The answer of lawful sides by the masks, and what phasing leaves.
-- Assumes nothing.
use mathlib.Core.Path.{◌≡◌, refl, sym, ap, ap₂, ◌∙◌}
use mathlib.Core.Logic.{inl, inr}
use mathlib.Core.Bool.{Bool, true, false}
use mathlib.Core.List.{List, ◌++◌, append_assoc}
use Prim.Native.Nat.{ℕ, ◌<◌}
use native.Mathlib.Omega.{arith}
use lib.Dec.{lit<}
use lib.ListN.{length}
use Rattle.below.specs.Below.{◌<?◌, tab, nth}
use Rattle.below.proofs.BelowLaws.{decided, T-isnt}
use Rattle.below.proofs.SearchLaws.{T_true, T_false, true-T, <?-true, <?-false}
use Rattle.conflicts.specs.Choice.{marked}
use Rattle.conflicts.specs.Grid.{Grid}
use Rattle.conflicts.specs.Blocks.{block}
use Rattle.conflicts.specs.Answer.{answer}
use Rattle.conflicts.specs.Minimality.{LawfulSides}
use Rattle.conflicts.proofs.SideLaws.{error_free-of, first_sides_of-first, lawful-same}
use Rattle.conflicts.proofs.SameLaws.{block-marks}
use Rattle.places.specs.declared.lines.Line.{Line}
use Rattle.masks.specs.Algorithm.Masks.{Masks}
use Rattle.phasing.specs.Algorithm.Sides.{SidesFound}
use Rattle.phasing.specs.Algorithm.Haplotypes.{side_codes, sections}
use Rattle.phasing.specs.Algorithm.Answer.{AnswerFound}
use Rattle.phasing.proofs.HaplotypeLaws.{codes-are}
use Rattle.phasing.proofs.SectionLaws.{columns-are}

-- the fragments with a side are those kept
lawful-marks : {g : Grid} {cols frags : ℕ → Bool} {s : ℕ → ℕ} → LawfulSides 2 g cols frags s → (i : ℕ) → i < g.m → frags i ≡ (0 <? s i)
lawful-marks {frags = frags} {s} w i h =
    elim (decided (frags i)) [
      | inl t ↦ T_true _ t ∙ sym (<?-true 0 (s i) (w.on i h t).0)
      | inr t ↦ T_false _ (T-isnt _ t) ∙ sym (<?-false 0 (s i) (let e = w.off i h t in omega arith))
    ]

module _ {g : Grid} {m n : ℕ} {lines : List Line} (cols : List ℕ) (masks : Masks g lines) (em : m ≡ g.m) (en : n ≡ g.n) where
  -- the answer of lawful sides
  sections-are : (sides : List ℕ) {blocks : List ℕ} → LawfulSides 2 g (marked cols) (marked sides) (nth sides) → blocks ≡ tab g.m (block g cols sides)
      → sections m n lines cols sides blocks ≡ answer g cols sides
  unfolding sections answer
  sections-are sides {blocks} law are =
      ap₂ (λ (a b : ℕ). cols ++ side_codes a b lines cols sides 1 ++ side_codes a b lines cols sides 2 ++ sides ++ blocks) em en
      ∙ ap₂ (λ (x y : List ℕ). cols ++ x ++ y ++ sides ++ blocks) (codes-are cols sides masks law 1 (lit< tt)) (codes-are cols sides masks law 2 (lit< tt))
      ∙ ap₂ (λ (x y : List ℕ). x ++ sides ++ y) (columns-are g cols sides) are
      ∙ simp append_assoc

  -- known sides
  pub known-answer : (sides : List ℕ) {spare blocks after : List ℕ} {ok : Bool} → length sides ≡ g.m → SidesFound g cols sides ok spare blocks → after ≡ sections m n lines cols sides blocks
      → LawfulSides 2 g (marked cols) (marked sides) (nth sides) → after ≡ answer g cols sides
  known-answer sides size found e law = e ∙ sections-are sides law (found.blocks_are (found.verdict ∙ T_true _ (error_free-of 2 g cols sides size law)))

  -- the sides found
  module _ {frags sides blocks : List ℕ} {ok : Bool} (found : SidesFound g cols frags ok sides blocks) where
    pub answer-yes : {before after : List ℕ} → length frags ≡ g.m → ok ≡ true → after ≡ sections m n lines cols sides blocks → AnswerFound g cols frags ok before after
    unfolding marked
    answer-yes size e write =
        let are = found.sides_are e in
        let fits = (first_sides_of-first 2 g cols frags size (true-T (sym found.verdict ∙ e))).fits in
        let law : LawfulSides 2 g (marked cols) (marked frags) (nth sides) = rw are fits in
        let marks = lawful-marks law in
        record {
          verdict = found.verdict;
          written = rw e (write ∙ sections-are sides (lawful-same (λ c h. refl) marks (λ i h. refl) law) (found.blocks_are e ∙ block-marks g cols frags sides marks) ∙ ap (answer g cols) are);
        }

    pub answer-no : {before : List ℕ} → ok ≡ false → AnswerFound g cols frags ok before before
    answer-no e = record { verdict = found.verdict; written = rw e refl }
