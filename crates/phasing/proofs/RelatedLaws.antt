-- Fragments that are related by their lines are those linked in the matrix, and the labels of their components are the blocks.
-- Assumes nothing.
use Rattle.std.specs.Prelude.{if◌then◌else◌}
use mathlib.Core.Path.{◌≡◌, ap, ap₂, ◌∙◌}
use mathlib.Core.Bool.{Bool}
use mathlib.Core.List.{List}
use Prim.Native.Nat.{ℕ, ◌<◌}
use lib.ListN.{length}
use Rattle.below.specs.Below.{◌and◌, tab, nth}
use Rattle.below.proofs.RowLaws.{tab-ext}
use Rattle.conflicts.specs.Choice.{marked}
use Rattle.conflicts.specs.Grid.{Grid, conflict_on, conflict_on_kept}
use Rattle.conflicts.specs.Blocks.{linked, block}
use Rattle.conflicts.proofs.SameLaws.{lowest-same}
use Rattle.places.specs.declared.places.Places.{Places}
use Rattle.places.specs.Algorithm.Places.{both_places, occupied, conflict_places, conflict_kept_in}
use Rattle.places.specs.declared.lines.Line.{Line}
use Rattle.masks.specs.Algorithm.Masks.{line_at}
use Rattle.masks.specs.Algorithm.Pairs.{Compared}
use Rattle.places.proofs.PlaceLaws.{some_below, occupied-below}
use Rattle.masks.proofs.LineLaws.{line-at, lines-conflict}
use Rattle.components.specs.Algorithm.Components.{related, State, lowests}
use Rattle.components.proofs.ComponentLaws.{are-lowests}
use Rattle.components.proofs.PassLaws.{related-links}

module _ {g : Grid} {cols : List ℕ} {lines : List Line} {keep : Places} (by : Compared g cols lines keep) (frags : List ℕ) where
  words-conflict : (i j : ℕ) → i < g.m → j < g.m → conflict_kept_in keep (line_at lines i) (line_at lines j) ≡ conflict_on_kept g cols i j
  unfolding conflict_kept_in conflict_on_kept conflict_on
  words-conflict i j hi hj =
      ap₂ (λ (k p : Places). occupied (both_places k p)) by.columns (ap₂ conflict_places (line-at g i by.masks hi) (line-at g j by.masks hj) ∙ lines-conflict g i j hi hj)
      ∙ ap occupied (some_below g.n (marked cols) _)
      ∙ occupied-below g.n _ by.masks.narrow

  pub related-linked : (i j : ℕ) → i < g.m → j < g.m → related lines keep frags i j ≡ linked g cols frags i j
  unfolding related linked
  related-linked i j hi hj = ap (λ (b : Bool). marked frags i and marked frags j and b) (words-conflict i j hi hj)

  -- the labels that the search for components leaves
  pub labels-blocks : (labels : List ℕ) → length labels ≡ g.m → {s : ℕ → ℕ} → State g.m (marked frags) (related lines keep frags) 16384 (nth labels) s
      → labels ≡ tab g.m (block g cols frags)
  unfolding lowests block
  labels-blocks labels long st =
      are-lowests g.m by.masks.few frags labels (related lines keep frags) (related-links lines keep frags g.m) long st
      ∙ tab-ext g.m _ _ (λ i h. ap (λ (x : ℕ). if marked frags i then x else 255) (lowest-same g.m (related lines keep frags) (linked g cols frags) related-linked i))
