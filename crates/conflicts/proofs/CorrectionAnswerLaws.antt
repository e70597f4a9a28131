-- The sections of C's answer: its length, its keep marks and its sides. By themselves, so that a wrong definition under which they hold too is refused by other laws alone.
-- Assumes nothing.
use mathlib.Core.Path.{◌≡◌, ◌∙◌}
use Prim.Native.Nat.{ℕ, ◌<◌}
use lib.Dec.{lit≤}
use lib.ListN.{length, get_or, get_or-replicate}
use Rattle.conflicts.specs.Choice.{keep_all}
use Rattle.conflicts.specs.Grid.{Grid, with_cells}
use Rattle.conflicts.specs.Corrections.{least_cost_sides_of, corrected}
use Rattle.conflicts.specs.Answer.{corrected_grid, correction_answer, keep_mark_in, side_in, answer_size}
use Rattle.conflicts.proofs.SideLaws.{all-length}
use Rattle.conflicts.proofs.AnswerLaws.{answer-length, keep_mark-at, side-at}
use Rattle.conflicts.proofs.LeastCorrections.{least-length}

module _ (g : Grid) where
  pub sides-length : length (least_cost_sides_of 2 g) ≡ g.m
  sides-length = least-length 2 g (lit≤ tt)

  pub correction-length : length (correction_answer g) ≡ answer_size g.m g.n
  unfolding correction_answer corrected_grid corrected with_cells
  correction-length = answer-length (corrected_grid g) (keep_all g.n) (least_cost_sides_of 2 g) (all-length g.n) sides-length

  pub correction-mark : (c : ℕ) → c < g.n → keep_mark_in (correction_answer g) c ≡ 1
  unfolding correction_answer corrected_grid corrected with_cells keep_all
  correction-mark c h =
      keep_mark-at (corrected_grid g) (keep_all g.n) (least_cost_sides_of 2 g) (all-length g.n) sides-length c h ∙ get_or-replicate {A = ℕ} g.n c 1 0 h

  pub correction-side : (i : ℕ) → i < g.m → side_in g.n (correction_answer g) i ≡ get_or (least_cost_sides_of 2 g) i 0
  unfolding correction_answer corrected_grid corrected with_cells
  correction-side i h = side-at (corrected_grid g) (keep_all g.n) (least_cost_sides_of 2 g) (all-length g.n) sides-length i h
