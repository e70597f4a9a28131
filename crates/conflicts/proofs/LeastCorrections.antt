-- C on a matrix: its changed calls work and come to what its side list costs, no set of calls that works comes to less, and the side list comes first.
-- Assumes nothing.
use Rattle.std.specs.Prelude.{if◌then◌else◌}
use mathlib.Core.Path.{◌≡◌, refl, sym, ap, subst, subst₂, ◌∙◌}
use mathlib.Core.Logic.{◌⊎◌, inl, inr}
use mathlib.Core.Bool.{Bool, true, false}
use mathlib.Core.List.{List, [], Memᴰ}
use Prim.Native.Nat.{ℕ, zero, suc, ◌+◌, ◌≤◌, ◌<◌, zero-le}
use native.Mathlib.Nat.{le_refl, le_trans, le_of_eq}
use native.Mathlib.Omega.{arith}
use lib.Dec.{T, lit≤}
use lib.ListN.{length, get_or}
use Rattle.below.specs.Below.{bit, ◌or◌, isnt, any_below, sum_below, count_below, tab}
use Rattle.below.proofs.BelowLaws.{T-isnt, none-at, if-false, sum-le, sum-swap, length-tab, get_or-tab}
use Rattle.below.proofs.RowLaws.{tab-again}
use Rattle.conflicts.specs.Choice.{marked, keep_all}
use Rattle.conflicts.specs.Grid.{Grid, with_cells, calls_conflict, conflict_on}
use Rattle.conflicts.specs.Sides.{side_lists}
use Rattle.conflicts.specs.Corrections.{correction_cost, cost, least_cost_sides_of, corrected, differs, cell_total, changed_total, turned}
use Rattle.conflicts.specs.Minimality.{everything, LawfulSides, ColumnsWork, FragmentsWork, CallsWork, Fewest, Alike, Earlier, FirstOf, SidesCost}
use Rattle.conflicts.proofs.ChoiceLaws.{first_least-is, first_least-in}
use Rattle.conflicts.proofs.OrderLaws.{Precedes, tied-before}
use Rattle.conflicts.proofs.SideLaws.{kept-all, all-length, side-mem, mem-side, sides-length, sides-at, sides-in, sides-order, earlier-same, classes-sides, sides-classes}
use Rattle.conflicts.proofs.CorrectionLaws.{cost-bound, cost-exact, corrected-apart, changed-call, corrected-turned}

-- ---- the side list, over any number of sides

module _ (k : ℕ) (g : Grid) where
  -- every fragment is on one of the sides
  abbrev On : (ℕ → ℕ) → Type 0
  On side = (i : ℕ) → i < g.m → (1 ≤ side i) × (side i ≤ k)

  all-lists : List (List ℕ)
  all-lists = side_lists k (keep_all g.m)

  list-in : (side : ℕ → ℕ) → On side → Memᴰ (tab g.m side) all-lists
  unfolding all-lists marked
  list-in side on =
      sides-in k (keep_all g.m) (tab g.m side) (length-tab g.m side ∙ sym (all-length g.m)) λ i h.
      let hi : i < g.m = omega (arith, all-length g.m) in
      rw (get_or-tab g.m side i 0 hi) (mem-side k _ (side i) (λ t. on i hi) (λ t. absurd (T-isnt _ t (kept-all g.m i hi))))

  list_on : {sides : List ℕ} → Memᴰ sides all-lists → On (λ i. get_or sides i 0)
  unfolding all-lists marked
  list_on m i h = (side-mem k _ (sides-at k (keep_all g.m) m i (omega (arith, all-length g.m)))).0 (kept-all g.m i h)

  module _ (one : 1 ≤ k) where
    abbrev least : List ℕ
    least = least_cost_sides_of k g

    least-in : Memᴰ least all-lists
    unfolding least_cost_sides_of all-lists
    least-in = first_least-in (cost k g) all-lists [] (list-in (λ i. 1) (λ i h. (le_refl 1, one)))

    pub least-length : length least ≡ g.m
    unfolding all-lists
    least-length = sides-length k (keep_all g.m) least-in ∙ all-length g.m

    pub least_on : (i : ℕ) → i < g.m → (1 ≤ get_or least i 0) × (get_or least i 0 ≤ k)
    least_on = list_on least-in

    -- no side function costs less
    pub least-cost : (side : ℕ → ℕ) → ((i : ℕ) → i < g.m → (1 ≤ side i) × (side i ≤ k)) → cost k g least ≤ cost k g (tab g.m side)
    unfolding least_cost_sides_of all-lists
    least-cost side on = let m = list-in side on in (first_least-is (cost k g) all-lists [] m).least _ m

    -- C's sides come first among all side functions of their cost
    pub least_first : FirstOf (SidesCost k g (cost k g least)) g.m (λ s. s) (λ i. get_or least i 0)
    unfolding least_cost_sides_of all-lists
    least_first = record {
      fits = record { on = least_on; costs = ap (cost k g) (subst (λ (m : ℕ). tab m (λ i. get_or least i 0) ≡ least) least-length (tab-again 0 least)) };
      first = λ other f. go other (tied-before (cost k g) all-lists [] (list-in other f.on) f.costs);
    }
      where
        go : (other : ℕ → ℕ) → (tab g.m other ≡ least) ⊎ Precedes least (tab g.m other) (side_lists k (keep_all g.m))
            → Alike g.m (λ i. get_or least i 0) other ⊎ Earlier g.m (λ i. get_or least i 0) other
        go other (inl e) = inl (record { same = λ i h. ap (λ (l : List ℕ). get_or l i 0) (sym e) ∙ get_or-tab g.m other i 0 h })
        go other (inr p) =
            inr (earlier-same (λ i h. refl) (λ i h. get_or-tab g.m other i 0 h)
            (subst (λ (n : ℕ). Earlier n (λ i. get_or least i 0) (λ i. get_or (tab g.m other) i 0)) (all-length g.m) (sides-order k (keep_all g.m) p)))

    -- a set of cells that, turned, lets the fragments be put on k sides with no conflict inside a side comes to at least what C's side list costs
    pub least-bound : (set : ℕ → ℕ → Bool) {side : ℕ → ℕ} → LawfulSides k (turned g set) everything everything side → cost k g least ≤ cell_total g set
    unfolding turned with_cells
    least-bound set {side} w =
        let on : On side = λ i h. w.on i h tt in
        let at : (i : ℕ) → i < g.m → get_or (tab g.m side) i 0 ≡ side i = λ i h. get_or-tab g.m side i 0 h in
        le_trans (least-cost side on)
        (cost-bound g (tab g.m side) k (λ i h. rw (at i h) (on i h)) set λ i j c hi hj hc e clash.
        w.apart i j c hi hj hc tt tt tt (sym (at i hi) ∙ e ∙ at j hj) clash)

-- ---- two classes

module _ (g : Grid) where
  -- C's changes leave no conflict inside a side
  corrected-sides : LawfulSides 2 (turned g (differs g (corrected g (least_cost_sides_of 2 g)))) everything everything (λ i. get_or (least_cost_sides_of 2 g) i 0)
  unfolding turned with_cells isnt conflict_on
  corrected-sides = record {
    on = λ i h t. least_on 2 g (lit≤ tt) i h;
    off = λ i h t. absurd t;
    apart = λ i j c hi hj hc ki kj kept e clash. corrected-apart g (least_cost_sides_of 2 g) i j c e (same i j c clash);
  }
    where
      same : (i j c : ℕ) → T (conflict_on (turned g (differs g (corrected g (least_cost_sides_of 2 g)))) c i j) → T (conflict_on (corrected g (least_cost_sides_of 2 g)) c i j)
      same i j c t = subst₂ (λ (x y : ℕ). T (calls_conflict x y)) (sym (corrected-turned g (least_cost_sides_of 2 g) i c)) (sym (corrected-turned g (least_cost_sides_of 2 g) j c)) t

  -- the cells that C changes are calls that work and come to what its side list costs, and no set of calls that works comes to less
  pub corrections-fewest : Fewest (CallsWork g) (cell_total g) (differs g (corrected g (least_cost_sides_of 2 g))) (cost 2 g (least_cost_sides_of 2 g))
  unfolding changed_total
  corrections-fewest = record {
    works = record { calls = λ i c hi hc t. changed-call g (least_cost_sides_of 2 g) i c t; free = sides-classes corrected-sides };
    count = cost-exact g (least_cost_sides_of 2 g) 2 (least_on 2 g (lit≤ tt));
    bound = λ other w. least-bound 2 g (lit≤ tt) other (classes-sides w.free);
  }

-- ---- the columns and the fragments that a set of calls touches

any-le-count : (n : ℕ) (p : ℕ → Bool) → bit (any_below n p) ≤ count_below n p
unfolding any_below count_below sum_below ◌or◌
any-le-count zero p = zero-le
any-le-count (suc n) p = step (any_below n p) (p n) (any-le-count n p)
  where
    step : {c : ℕ} (a b : Bool) → bit a ≤ c → bit (a or b) ≤ c + bit b
    step true b h = omega arith
    step false b h = omega arith

-- a cell of a set weighs at least 1
bit_le : (b : Bool) {w : ℕ} → 1 ≤ w → bit b ≤ (if b then w else 0)
bit_le true h = h
bit_le false h = zero-le

module _ (g : Grid) (set : ℕ → ℕ → Bool) where
  -- a cell outside the set is not turned
  outside_set : (i c : ℕ) → T (isnt (set i c)) → (turned g set).cell i c ≡ g.cell i c
  unfolding turned with_cells
  outside_set i c t = if-false (set i c) _ _ t

  conflict-outside : (i j c : ℕ) → T (isnt (set i c)) → T (isnt (set j c)) → T (conflict_on g c i j) → T (conflict_on (turned g set) c i j)
  unfolding conflict_on
  conflict-outside i j c a b t = subst₂ (λ (x y : ℕ). T (calls_conflict x y)) (sym (outside_set i c a)) (sym (outside_set j c b)) t

  abbrev pub touched_column : ℕ → Bool
  touched_column c = any_below g.m (λ i. set i c)

  abbrev pub touched_fragment : ℕ → Bool
  touched_fragment i = any_below g.n (set i)

  -- where correcting a set of calls makes the table error-free, so does removing the columns that it touches, and these are no more
  pub columns-touched : CallsWork g set → ColumnsWork g touched_column
  unfolding turned with_cells
  columns-touched w = record {
    class = w.free.class;
    apart = λ i j c hi hj hc ki kj kept e clash.
        w.free.apart i j c hi hj hc tt tt tt e (conflict-outside i j c (none-at g.m (λ i. set i c) kept i hi) (none-at g.m (λ i. set i c) kept j hj) clash);
  }

  -- "no weight is under 1": a set comes to at least as much as it has cells
  cells-weigh : ((i : ℕ) → i < g.m → 1 ≤ g.weight i) → sum_below g.m (λ i. count_below g.n (set i)) ≤ cell_total g set
  unfolding cell_total count_below correction_cost
  cells-weigh heavy = sum-le g.m _ _ λ i hi. sum-le g.n _ _ λ c hc. bit_le (set i c) (heavy i hi)

  pub columns-count : ((i : ℕ) → i < g.m → 1 ≤ g.weight i) → count_below g.n touched_column ≤ cell_total g set
  unfolding count_below
  columns-count heavy =
      le_trans (sum-le g.n _ (λ c. count_below g.m (λ i. set i c)) λ c hc. any-le-count g.m (λ i. set i c))
      (le_trans (le_of_eq (sym (sum-swap g.m g.n (λ i c. bit (set i c))))) (cells-weigh heavy))

  -- the same for the fragments
  pub fragments-touched : CallsWork g set → FragmentsWork g touched_fragment
  unfolding turned with_cells
  fragments-touched w = record {
    class = w.free.class;
    apart = λ i j c hi hj hc ki kj kept e clash.
        w.free.apart i j c hi hj hc tt tt tt e (conflict-outside i j c (none-at g.n (set i) ki c hc) (none-at g.n (set j) kj c hc) clash);
  }

  pub fragments-count : ((i : ℕ) → i < g.m → 1 ≤ g.weight i) → count_below g.m touched_fragment ≤ cell_total g set
  unfolding count_below
  fragments-count heavy = le_trans (sum-le g.m _ _ λ i hi. any-le-count g.n (set i)) (cells-weigh heavy)
