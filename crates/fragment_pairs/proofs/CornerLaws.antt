-- The places of pairs of states: rows that follow one another, and one place for each pair.
-- Assumes nothing.
use mathlib.Core.Path.{◌≡◌, sym, ap₂, ◌∙◌}
use Prim.Native.Nat.{ℕ, zero, suc, ◌+◌, ◌≤◌, ◌<◌, min, max}
use native.Mathlib.Nat.{le_trans, le-max_left, le-min, min_comm, max_comm, max-eq_left, min-eq_right, suc-mul, mul-suc}
use native.Mathlib.Decide.{ℕ_discrete}
use native.Mathlib.Omega.{arith}
use Rattle.fragment_pairs.specs.Algorithm.Pairs.{row_start_of, corner}

-- ---- rows

-- each row has one place more than the row before it
pub row_next : (h : ℕ) → row_start_of (suc h) ≡ row_start_of h + suc h
unfolding row_start_of
row_next h = let a = suc-mul h (suc h + 1) in let b = mul-suc h (h + 1) in omega arith

-- a row ends before those of later states begin
pub row-after : (a h : ℕ) → a < h → row_start_of a + a < row_start_of h
row-after a zero l = absurd (omega arith)
row-after a (suc h) l = let next = row_next h in elim (ℕ_discrete a h) [
  | yes e ↦ rw e (omega arith)
  | no ne ↦ let deeper = row-after a h (omega arith) in omega arith
]

-- later pairs have later places
row-order : (h l x y : ℕ) → l ≤ h → h ≤ x → l ≤ y → row_start_of h + l ≤ row_start_of x + y
row-order h l x y lh hx ly = elim (ℕ_discrete h x) [
  | yes e ↦ rw e (omega arith)
  | no ne ↦ let after = row-after h x (omega arith) in omega arith
]

-- 129 states have 8385 places
pub row_inside : {start : ℕ} (h l : ℕ) → start ≡ row_start_of h → l ≤ h → h ≤ 128 → start + l < 8385
unfolding row_start_of
row_inside h l e lh small = let after = row-after h 129 (omega arith) in omega arith

-- ---- a pair of states has one place

-- whichever side is at which state
pub corner-swap : (h l : ℕ) → corner h l ≡ corner l h
unfolding corner
corner-swap h l = ap₂ (λ (x y : ℕ). row_start_of x + y) (max_comm h l) (min_comm h l)

-- in the row of the later state
pub corner-row : (h l : ℕ) → l ≤ h → corner h l ≡ row_start_of h + l
unfolding corner
corner-row h l le = ap₂ (λ (x y : ℕ). row_start_of x + y) (max-eq_left le) (min-eq_right le)

-- the place of state h and the one after position i, in that one's row
pub corner-last : {last : ℕ} (h i : ℕ) → last ≡ row_start_of (i + 1) → h ≤ i → last + h ≡ corner h (i + 1)
corner-last h i e hi = rw e (sym (corner-row (i + 1) h (omega arith)) ∙ corner-swap (i + 1) h)

pub corner-least : (h l x y : ℕ) → l ≤ h → h ≤ x → l ≤ y → row_start_of h + l ≤ corner x y
unfolding corner
corner-least h l x y lh hx ly = row-order h l (max x y) (min x y) lh (le_trans hx (le-max_left x y)) (le-min (le_trans lh hx) ly)
