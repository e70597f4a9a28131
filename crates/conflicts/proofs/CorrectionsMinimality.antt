-- C hands back a set of calls of the least total among all that make the table error-free; its number is at least S's and at least F's. No gaplessness is used.
-- Assumes nothing.
use mathlib.Core.Path.{◌≡◌, refl, sym, ap, ap₂, subst, subst₂, ◌∙◌}
use mathlib.Core.Bool.{Bool}
use mathlib.Core.List.Memᴰ
use mathlib.Core.List.{List}
use Prim.Native.Nat.{ℕ, ◌%◌, ◌≤◌, ◌<◌}
use native.Mathlib.Nat.{le_trans, le_of_eq}
use lib.Dec.{T, lit≤}
use lib.ListN.{length, get_or, replicate}
use Rattle.below.specs.Below.{isnt, tab}
use Rattle.fields.specs.Record.{grade_of, is_call_code}
use Rattle.fields.specs.Table.{record_bytes_at}
use Rattle.records.specs.Outcome.{Verdict, accepted}
use Rattle.below.proofs.BelowLaws.{if-true}
use Rattle.below.proofs.RowLaws.{tab-ext, tab-again}
use Rattle.conflicts.specs.Choice.{zeros, keep_all}
use Rattle.conflicts.specs.Grid.{Grid, grid_of, with_cells}
use Rattle.conflicts.specs.Removal.{snp_keep_marks_of, fragment_keep_marks_of}
use Rattle.conflicts.specs.Corrections.{cost, least_cost_sides_of, side_letter, corrected_cell, corrected, differs, cell_total, changed_total, turned}
use Rattle.conflicts.specs.Answer.{corrected_grid, correction_answer, corrected_table, side_in}
use Rattle.conflicts.specs.Minimality.{CallsWork, Fewest, FirstOf, SidesCost, Corrected}
use Rattle.conflicts.specs.Phased.{Phased}
use Rattle.conflicts.specs.Services.{lent_stages, removal_rules, correction_stages, correction_rules, written, work_after, snp_removal_leaves, fragment_removal_leaves, corrections_leaves}
use Rattle.conflicts.proofs.SideLaws.{all-length, lawful-of, alike_same}
use Rattle.conflicts.proofs.PhaseLaws.{phased}
use Rattle.conflicts.proofs.Minimality.{snp_removal_holds, fragment_removal_holds}
use Rattle.conflicts.proofs.CorrectionAnswerLaws.{sides-length, correction-length, correction-mark, correction-side}
use Rattle.conflicts.proofs.CorrectionLaws.{cost-exact, corrected-apart, corrected-turned}
use Rattle.conflicts.proofs.LeastCorrections.{least_on, least-cost, least_first, corrections-fewest, touched_column, touched_fragment, columns-touched, columns-count, fragments-touched, fragments-count}
use Rattle.conflicts.proofs.CorrectedTableLaws.{corrected-hole, grid-corrected, others-kept}
use Rattle.records.specs.Rules.{size_rules}
use Rattle.records.proofs.RuleLaws.{accepted-stage, accepted-count}
use Rattle.records.proofs.AcceptedLaws.{whole-records}
use Rattle.fields.proofs.GradeLaws.{weight-range}

-- ---- C's answer

module _ (g : Grid) where
  -- the list of the sides in the answer
  correction-list : tab g.m (side_in g.n (correction_answer g)) ≡ least_cost_sides_of 2 g
  correction-list =
      tab-ext g.m _ _ (correction-side g) ∙ subst (λ (m : ℕ). tab m (λ i. get_or (least_cost_sides_of 2 g) i 0) ≡ least_cost_sides_of 2 g) (sides-length g) (tab-again 0 (least_cost_sides_of 2 g))

  -- a call becomes the letter of its side in the answer
  correction-letter : (i c : ℕ) → i < g.m → T (is_call_code (g.cell i c))
      → (corrected_grid g).cell i c ≡ side_letter g (tab g.m (side_in g.n (correction_answer g))) (side_in g.n (correction_answer g) i) c
  unfolding corrected_grid corrected with_cells corrected_cell
  correction-letter i c h t =
      if-true (is_call_code (g.cell i c)) _ _ t ∙ sym (ap₂ (λ (l : List ℕ) (s : ℕ). side_letter g l s c) correction-list (correction-side g i h))

  -- the sides in the answer are the first of least cost
  pub correction-sides : FirstOf (SidesCost 2 g (cost 2 g (least_cost_sides_of 2 g))) g.m (λ s. s) (side_in g.n (correction_answer g))
  correction-sides =
      let w = least_first 2 g (lit≤ tt) in
      record {
        fits = record {
          on = λ i h. rw (correction-side g i h) (w.fits.on i h);
          costs = ap (cost 2 g) correction-list;
        };
        first = λ other f. alike_same (λ i h. sym (correction-side g i h)) (λ i h. refl) (w.first other f);
      }

  -- the haplotypes and blocks are those of the corrected matrix
  pub correction-phased : Phased (corrected_grid g) (correction_answer g)
  unfolding correction_answer corrected_grid corrected with_cells
  correction-phased =
      phased (corrected_grid g) (keep_all g.n) (least_cost_sides_of 2 g) (all-length g.n) (sides-length g)
      (lawful-of (corrected_grid g) (keep_all g.n) (least_cost_sides_of 2 g) λ i j c hi hj hc on e kept clash. corrected-apart g (least_cost_sides_of 2 g) i j c e clash)

  -- the cells that change come to what the side list costs
  pub changed-cost : changed_total g (corrected_grid g) ≡ cost 2 g (least_cost_sides_of 2 g)
  unfolding corrected_grid
  changed-cost = cost-exact g (least_cost_sides_of 2 g) 2 (least_on 2 g (lit≤ tt))

-- ---- C's table, where it holds whole records within the columns

module _ (n : ℕ) (table : List ℕ) (whole : length table % 32 ≡ 0) where
  abbrev g : Grid
  g = grid_of n table

  -- C's number is the cost of its side list
  pub changed-number : changed_total (grid_of n table) (grid_of n (corrected_table n table)) ≡ cost 2 (grid_of n table) (least_cost_sides_of 2 (grid_of n table))
  changed-number = rw (grid-corrected n table whole) (changed-cost g)

  -- what holds of C's matrix holds of the one that its table holds
  of-table : (P : Grid → Type 0) → P (corrected_grid (grid_of n table)) → P (grid_of n (corrected_table n table))
  of-table P p = subst P (sym (grid-corrected n table whole)) p

  table-fewest : Fewest (CallsWork (grid_of n table)) (cell_total (grid_of n table)) (differs (grid_of n table) (grid_of n (corrected_table n table))) (cost 2 (grid_of n table) (least_cost_sides_of 2 (grid_of n table)))
  unfolding corrected_grid
  table-fewest = of-table (λ h. Fewest (CallsWork g) (cell_total g) (differs g h) (cost 2 g (least_cost_sides_of 2 g))) (corrections-fewest g)

  table-turns : (i c : ℕ) → (grid_of n (corrected_table n table)).cell i c ≡ (turned (grid_of n table) (differs (grid_of n table) (grid_of n (corrected_table n table)))).cell i c
  unfolding corrected_grid
  table-turns i c = of-table (λ h. h.cell i c ≡ (turned g (differs g h)).cell i c) (corrected-turned g (least_cost_sides_of 2 g) i c)

  table-holes : (i c : ℕ) → T (isnt (is_call_code ((grid_of n table).cell i c))) → (grid_of n (corrected_table n table)).cell i c ≡ (grid_of n table).cell i c
  unfolding corrected_grid
  table-holes i c t = of-table (λ h. h.cell i c ≡ g.cell i c) (corrected-hole g (least_cost_sides_of 2 g) i c t)

  table-letters : (i c : ℕ) → i < (grid_of n table).m → T (is_call_code ((grid_of n table).cell i c))
      → (grid_of n (corrected_table n table)).cell i c ≡ side_letter (grid_of n table) (tab (grid_of n table).m (side_in (grid_of n table).n (correction_answer (grid_of n table)))) (side_in (grid_of n table).n (correction_answer (grid_of n table)) i) c
  table-letters i c h t =
      of-table (λ h. h.cell i c ≡ side_letter g (tab g.m (side_in g.n (correction_answer g))) (side_in g.n (correction_answer g) i) c) (correction-letter g i c h t)

  pub corrected-table : ((j : ℕ) → j < length table → get_or table j 0 < 256)
      → Corrected n table (correction_answer (grid_of n table)) (corrected_table n table) (cost 2 (grid_of n table) (least_cost_sides_of 2 (grid_of n table)))
  unfolding grid_of
  corrected-table bytes = record {
    filled = correction-length g;
    marks = correction-mark g;
    fewest = table-fewest;
    turns = λ i c hi hc. table-turns i c;
    holes = λ i c hi hc t. table-holes i c t;
    others = others-kept n table whole bytes;
    sides = correction-sides g;
    cheapest = λ side other w. subst (λ (x : ℕ). cost 2 g (least_cost_sides_of 2 g) ≤ x) w.costs (least-cost 2 g (lit≤ tt) side w.on);
    letters = λ i c hi hc t. table-letters i c hi t;
    phased = of-table (λ h. Phased h (correction_answer g)) (correction-phased g);
  }

-- ---- the accepted outcome

module _ (n : ℕ) (table answer output work : List ℕ) (k : ℕ) (e : (corrections_leaves n table answer output work).outcome ≡ accepted k) where
  whole-table : length table % 32 ≡ 0
  unfolding corrections_leaves correction_rules correction_stages lent_stages
  whole-table = whole-records n table _ _ (accepted-stage _ _ k e (size_rules n table) (Memᴰ.head refl))

  -- C's number is the cost of its side list
  pub corrections-number : cost 2 (grid_of n table) (least_cost_sides_of 2 (grid_of n table)) ≡ k
  unfolding corrections_leaves
  corrections-number = sym (changed-number n table whole-table) ∙ accepted-count (correction_rules n table answer output work) _ k e

  -- an accepted C: demand 3 on its answer, its table and the number returned, and the work buffer all zero. A slice's bytes are below 256
  pub corrections-accepted : ((j : ℕ) → j < length table → get_or table j 0 < 256)
      → Corrected n table (corrections_leaves n table answer output work).answer (corrections_leaves n table answer output work).table k
      × ((corrections_leaves n table answer output work).work ≡ replicate (length work) 0)
  unfolding corrections_leaves
  corrections-accepted bytes = (
    subst (λ (v : Verdict). Corrected n table (written v (correction_answer (grid_of n table)) answer) (written v (corrected_table n table) output) k) (sym e)
        (subst (λ (j : ℕ). Corrected n table (correction_answer (grid_of n table)) (corrected_table n table) j) corrections-number (corrected-table n table whole-table bytes)),
    ap (λ (v : Verdict). work_after v work) e,
  )

-- ---- C's number is at least S's and at least F's

-- "no weight is under 1"
module _ (g : Grid) (heavy : (i : ℕ) → i < g.m → 1 ≤ g.weight i) where
  -- every set of calls that works comes to at least as much as S removes columns, and as F removes fragments
  pub snp-le-calls : (set : ℕ → ℕ → Bool) → CallsWork g set → zeros (snp_keep_marks_of g) ≤ cell_total g set
  snp-le-calls set w = le_trans ((snp_removal_holds g).fewest.bound (touched_column g set) (columns-touched g set w)) (columns-count g set heavy)

  pub fragments-le-calls : (set : ℕ → ℕ → Bool) → CallsWork g set → zeros (fragment_keep_marks_of g) ≤ cell_total g set
  fragments-le-calls set w = le_trans ((fragment_removal_holds g).fewest.bound (touched_fragment g set) (fragments-touched g set w)) (fragments-count g set heavy)

  pub snp-le-corrections : zeros (snp_keep_marks_of g) ≤ cost 2 g (least_cost_sides_of 2 g)
  snp-le-corrections = let c = corrections-fewest g in le_trans (snp-le-calls _ c.works) (le_of_eq c.count)

  pub fragments-le-corrections : zeros (fragment_keep_marks_of g) ≤ cost 2 g (least_cost_sides_of 2 g)
  fragments-le-corrections = let c = corrections-fewest g in le_trans (fragments-le-calls _ c.works) (le_of_eq c.count)

-- the weights of a table
pub table-heavy : (n : ℕ) (table : List ℕ) (i : ℕ) → i < (grid_of n table).m → 1 ≤ (grid_of n table).weight i
unfolding grid_of
table-heavy n table i h = (weight-range (grade_of (record_bytes_at table i))).0

module _ (n : ℕ) (table answer output work : List ℕ) (c : ℕ) (corrects : (corrections_leaves n table answer output work).outcome ≡ accepted c) where
  -- the same of the numbers returned by accepted calls on one table
  pub snp-number-le : (answer work : List ℕ) (s : ℕ) → (snp_removal_leaves n table answer work).outcome ≡ accepted s → s ≤ c
  unfolding snp_removal_leaves
  snp-number-le answer' work' s e =
      subst₂ (λ (x y : ℕ). x ≤ y) (accepted-count (removal_rules n table answer' work') _ s e) (corrections-number n table answer output work c corrects) (snp-le-corrections (grid_of n table) (table-heavy n table))

  pub fragment-number-le : (answer work : List ℕ) (f : ℕ) → (fragment_removal_leaves n table answer work).outcome ≡ accepted f → f ≤ c
  unfolding fragment_removal_leaves
  fragment-number-le answer' work' f e =
      subst₂ (λ (x y : ℕ). x ≤ y) (accepted-count (removal_rules n table answer' work') _ f e) (corrections-number n table answer output work c corrects) (fragments-le-corrections (grid_of n table) (table-heavy n table))
