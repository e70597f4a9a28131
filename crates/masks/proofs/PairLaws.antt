-- The matrix of the numbers of all pairs, by its entries, and what they say of a matrix of cells.
-- Assumes nothing.
use Rattle.std.specs.Prelude.{if◌then◌else◌}
use mathlib.Core.Path.{◌≡◌, refl, sym, ap, ap₂, subst, ◌∙◌}
use mathlib.Core.Bool.{Bool, true, false}
use mathlib.Core.List.{List}
use Prim.Native.Nat.{ℕ, ◌+◌, ◌*◌, ◌/◌, ◌%◌, ◌<◌}
use native.Mathlib.Nat.{pos_of_ne-zero}
use native.Mathlib.Omega.{arith}
use lib.Dec.{T}
use lib.ListN.{length, get_or, set}
use Rattle.below.specs.Below.{◌<?◌, ◌and◌, nth}
use Rattle.below.proofs.BelowLaws.{get_or-tab}
use Rattle.below.proofs.SearchLaws.{<?-true, <?-false, T_true}
use Rattle.below.proofs.FillLaws.{filled_more, filled-all}
use Rattle.conflicts.specs.Choice.{marked}
use Rattle.conflicts.specs.Grid.{Grid}
use Rattle.conflicts.specs.Counts.{conflict_count_of}
use Rattle.places.specs.declared.places.Places.{Places}
use Rattle.places.specs.declared.lines.Line.{Line}
use Rattle.places.specs.Algorithm.Places.{both_places, size, conflict_size}
use Rattle.masks.specs.Algorithm.Masks.{line_at}
use Rattle.masks.specs.Algorithm.Pairs.{pair_number_of, Numbered, pair_matrix, Compared}
use Rattle.places.proofs.PlaceLaws.{conflict-comm}
use Rattle.masks.proofs.LineLaws.{conflicts-where}

-- ---- keep marks of two fragments

module _ (x y s : ℕ) where
  pub first-removed : x ≡ 0 → 0 ≡ if 0 <? x and 0 <? y then s else 0
  unfolding ◌and◌
  first-removed e = rw (<?-false 0 x (omega arith))

  pub second-removed : y ≡ 0 → 0 ≡ if 0 <? x and 0 <? y then s else 0
  unfolding ◌and◌
  second-removed e = rw (<?-false 0 y (omega arith)) (go (0 <? x))
    where
      go : (b : Bool) → 0 ≡ if b and false then s else 0
      go true = refl
      go false = refl

  pub both-kept : (x ≡ 0 → ⊥) → (y ≡ 0 → ⊥) → s ≡ if 0 <? x and 0 <? y then s else 0
  unfolding ◌and◌
  both-kept f g = rw (<?-true 0 x (pos_of_ne-zero f), <?-true 0 y (pos_of_ne-zero g))

-- ---- the matrix

-- no place yet
pub numbered-none : {number : ℕ → ℕ → ℕ} {l : List ℕ} → length l ≡ 16384 → Numbered number 0 l
numbered-none e = record { long = e; done = λ q h. absurd (omega arith) }

-- one place more
pub numbered_more : {number : ℕ → ℕ → ℕ} {l : List ℕ} {k : ℕ} (i j v : ℕ) → Numbered number k l → k ≡ i * 128 + j → i < 128 → j < 128 → v ≡ number i j → Numbered number (k + 1) (set l k v)
numbered_more {number} {l} {k} i j v w e hi hj is =
    let p : k / 128 ≡ i = omega arith in
    let q : k % 128 ≡ j = omega arith in
    let r = filled_more 16384 (λ x. number (x / 128) (x % 128)) k l v (record { within = omega arith; sized = w.long; done = w.done }) (omega arith) (is ∙ sym (ap₂ number p q)) in
    record { long = r.sized; done = r.done }

-- the same place by another name
pub numbered-to : {number : ℕ → ℕ → ℕ} {l : List ℕ} {k k' : ℕ} → k ≡ k' → Numbered number k l → Numbered number k' l
numbered-to {number} {l} e w = subst (λ (k : ℕ). Numbered number k l) e w

-- the number of a pair whose row is done
pub numbered-at : {number : ℕ → ℕ → ℕ} {l : List ℕ} {k : ℕ} (i j : ℕ) → Numbered number k l → j < 128 → i * 128 + j < k → nth l (i * 128 + j) ≡ number i j
numbered-at {number} i j w hj h =
    let p : (i * 128 + j) / 128 ≡ i = omega arith in
    let q : (i * 128 + j) % 128 ≡ j = omega arith in
    w.done (i * 128 + j) h ∙ ap₂ number p q

-- the same both ways
size-comm : (keep : Places) (x y : Line) → conflict_size keep x y ≡ conflict_size keep y x
unfolding conflict_size
size-comm keep x y = ap (λ (p : Places). size (both_places keep p)) (conflict-comm x y)

and_comm : (a b : Bool) → (a and b) ≡ (b and a)
unfolding ◌and◌
and_comm true true = refl
and_comm true false = refl
and_comm false true = refl
and_comm false false = refl

module _ (lines : List Line) (keep : Places) (frags : List ℕ) where
  pub number-back : (i j : ℕ) → pair_number_of lines keep frags i j ≡ pair_number_of lines keep frags j i
  unfolding pair_number_of
  number-back i j = ap₂ (λ (b : Bool) (k : ℕ). if b then k else 0) (and_comm (marked frags i) (marked frags j)) (size-comm keep (line_at lines i) (line_at lines j))

  -- the number at place k
  abbrev entry : ℕ → ℕ
  entry k = pair_number_of lines keep frags (k / 128) (k % 128)

  pub matrix-is : {matrix : List ℕ} → Numbered (pair_number_of lines keep frags) 16384 matrix → matrix ≡ pair_matrix lines keep frags
  unfolding pair_matrix
  matrix-is {matrix} w = filled-all 16384 entry 16384 matrix (record { within = omega arith; sized = w.long; done = w.done }) (omega arith)

  pub matrix-at : (i j : ℕ) → i < 128 → j < 128 → get_or (pair_matrix lines keep frags) (i * 128 + j) 0 ≡ pair_number_of lines keep frags i j
  unfolding pair_matrix
  matrix-at i j hi hj =
      let p : (i * 128 + j) / 128 ≡ i = omega arith in
      let q : (i * 128 + j) % 128 ≡ j = omega arith in
      get_or-tab 16384 entry (i * 128 + j) 0 (omega arith) ∙ ap₂ (pair_number_of lines keep frags) p q

-- ---- what the numbers say

module _ {g : Grid} {cols : List ℕ} {lines : List Line} {keep : Places} (by : Compared g cols lines keep) (frags : List ℕ) (i j : ℕ) (hi : i < g.m) (hj : j < g.m) where
  size_counts : conflict_size keep (line_at lines i) (line_at lines j) ≡ conflict_count_of g cols i j
  unfolding conflict_count_of
  size_counts = rw by.columns (conflicts-where g (marked cols) i j by.masks hi hj)

  -- the number of two fragments that are kept
  pub number-kept : T (marked frags i) → T (marked frags j) → pair_number_of lines keep frags i j ≡ conflict_count_of g cols i j
  unfolding pair_number_of ◌and◌
  number-kept ki kj = rw (T_true (marked frags i) ki, T_true (marked frags j) kj) size_counts
