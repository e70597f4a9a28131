-- Rows of one length, laid one after the other in a list.
-- Assumes nothing.
use mathlib.Core.Logic.{inl, inr}
use mathlib.Core.Path.{◌≡◌, refl, sym, ap, ap₂, ◌∙◌}
use mathlib.Core.List.{List, ◌∷◌, ◌++◌}
use Prim.Native.Nat.{ℕ, zero, suc, ◌+◌, ◌*◌, ◌^◌, ◌≤◌, ◌<◌, ◌/◌, ◌%◌}
use native.Mathlib.Nat.{not-suc-le-zero, suc-mul, zero-mul, zero-add, mul-le-mul, mul-le-mul_right, lt_of_le_of_lt, eq-zero-or-pos, div-lt_iff_lt-mul, mod-lt, div-add-mod', mul-zero}
use native.Mathlib.Numerals.{add-one}
use native.Mathlib.Omega.{arith}
use lib.Dec.{lit<}
use lib.ListN.{length, get_or, take, drop, length-drop, length-append}
use lib.Seq.{get_or-take, get_or-drop, length-take-le, take-add, drop-drop, take_all, take_at, drop-append-add, ext_get_or}
use Rattle.below.specs.Below.{tab, tab_from, concat}
use Rattle.below.proofs.BelowLaws.{length-tab, get_or-tab}

-- row i of m rows ends within them
pub row_within : (m w i : ℕ) → i < m → i * w + w ≤ m * w
row_within m w i h = rw suc-mul at (mul-le-mul_right w h)

-- the next row starts w places on
pub row_next : (i w : ℕ) {at : ℕ} → at ≡ i * w → at + w ≡ (i + 1) * w
row_next i w e = ap (λ (k : ℕ). k + w) e ∙ sym (ap (λ (k : ℕ). k * w) (add-one i) ∙ suc-mul i w)

-- at most 128 rows of at most 128 places fit a usize
pub product-fits : {w m : ℕ} → w ≤ 128 → m ≤ 128 → m * w < 2 ^ 64
product-fits hw hm = lt_of_le_of_lt (mul-le-mul hm hw) (lit< tt)

-- ---- lists of f 0, …, f (n - 1)

module _ {ℓ} {A : Type ℓ} where
  tab_from-ext : (k n : ℕ) (f g : ℕ → A) → ((i : ℕ) → i < k + n → f i ≡ g i) → tab_from k n f ≡ tab_from k n g
  unfolding tab_from
  tab_from-ext k zero f g h = refl
  tab_from-ext k (suc n) f g h = ap₂ ◌∷◌ (h k (omega arith)) (tab_from-ext (suc k) n f g (λ i l. h i (omega arith)))

  pub tab-ext : (n : ℕ) (f g : ℕ → A) → ((i : ℕ) → i < n → f i ≡ g i) → tab n f ≡ tab n g
  unfolding tab
  tab-ext n f g h = tab_from-ext 0 n f g (λ i l. h i (omega arith))

  -- n entries of a list from one place on
  pub part-again : (d : A) (n at : ℕ) (l : List A) → at + n ≤ length l → tab n (λ c. get_or l (at + c) d) ≡ take n (drop at l)
  part-again d n at l h =
      let long = length-drop at l in
      let right : length (take n (drop at l)) ≡ n = length-take-le n (drop at l) (omega arith) in
      let left : length (tab n (λ c. get_or l (at + c) d)) ≡ n = length-tab n _ in
      ext_get_or d _ _ (left ∙ sym right)
      (λ c k. let g : c < n = omega arith in get_or-tab n (λ c. get_or l (at + c) d) c d g ∙ sym (get_or-take n (drop at l) c d g ∙ get_or-drop at l c d))

  -- a list is its entries
  pub tab-again : (d : A) (l : List A) → tab (length l) (λ i. get_or l i d) ≡ l
  tab-again d l = ext_get_or d _ l (length-tab (length l) _) (λ i h. get_or-tab (length l) (λ i. get_or l i d) i d (rw (length-tab (length l)) at h))

-- ---- rows of width w

module _ {ℓ} {A : Type ℓ} where
  rows-from : (w k m : ℕ) (l : List A) → concat (tab_from k m (λ i. take w (drop (i * w) l))) ≡ take (m * w) (drop (k * w) l)
  unfolding tab_from concat
  rows-from w k zero l = rw (zero-mul w)
  rows-from w k (suc m) l =
      let e : suc m * w ≡ w + m * w = rw suc-mul (omega arith) in
      let d : suc k * w ≡ k * w + w = rw suc-mul (omega arith) in
      rw (rows-from w (suc k) m l, d, ← drop-drop w (k * w) l, e, take-add w (m * w) (drop (k * w) l))

  -- a list is its rows
  pub rows_whole : (w m : ℕ) (l : List A) → length l ≡ m * w → concat (tab m (λ i. take w (drop (i * w) l))) ≡ l
  unfolding tab
  rows_whole w m l e = rows-from w 0 m l ∙ ap (λ (j : ℕ). take (m * w) (drop j l)) (zero-mul w) ∙ take_all (m * w) l (omega arith)

  -- … and its entries, row by row
  pub cells-again : (d : A) (m n : ℕ) (l : List A) → length l ≡ m * n → concat (tab m (λ i. tab n (λ c. get_or l (i * n + c) d))) ≡ l
  cells-again d m n l e =
      ap concat (tab-ext m _ _ (λ i h. part-again d n (i * n) l (let g = row_within m n i h in omega arith))) ∙ rows_whole n m l e

  module _ (w : ℕ) (f : ℕ → List A) (even : (i : ℕ) → length (f i) ≡ w) where
    length_from : (k m : ℕ) → length (concat (tab_from k m f)) ≡ m * w
    unfolding tab_from concat
    length_from k zero = sym (zero-mul w)
    length_from k (suc m) = length-append (f k) (concat (tab_from (suc k) m f)) ∙ rw (even k, length_from (suc k) m, suc-mul) (omega arith)

    row_from : (k m i : ℕ) → i < m → take w (drop (i * w) (concat (tab_from k m f))) ≡ f (k + i)
    unfolding tab_from concat
    row_from k zero i l = absurd (not-suc-le-zero l)
    row_from k (suc m) zero l =
        ap (λ (j : ℕ). take w (drop j (f k ++ concat (tab_from (suc k) m f)))) (zero-mul w)
        ∙ take_at (f k) (concat (tab_from (suc k) m f)) w (even k) ∙ ap f (omega arith)
    row_from k (suc m) (suc i) l =
        let e : suc i * w ≡ length (f k) + i * w = rw (suc-mul, even k) (omega arith) in
        ap (λ (j : ℕ). take w (drop j (f k ++ concat (tab_from (suc k) m f)))) e
        ∙ ap (take w) (drop-append-add (f k) (concat (tab_from (suc k) m f)) (i * w))
        ∙ row_from (suc k) m i (omega arith) ∙ ap f (omega arith)

    pub length-laid-out : (m : ℕ) → length (concat (tab m f)) ≡ m * w
    unfolding tab
    length-laid-out m = length_from 0 m

    -- a row of the rows laid out
    pub row_laid : (m i : ℕ) → i < m → take w (drop (i * w) (concat (tab m f))) ≡ f i
    unfolding tab
    row_laid m i l = row_from 0 m i l ∙ ap f (zero-add i)

  -- rows of n entries
  module _ (n : ℕ) (f : ℕ → ℕ → A) where
    pub length-flat : (m : ℕ) → length (concat (tab m (λ i. tab n (f i)))) ≡ m * n
    length-flat m = length-laid-out n (λ i. tab n (f i)) (λ i. length-tab n (f i)) m

    pub flat-at : (d : A) (m i c : ℕ) → i < m → c < n → get_or (concat (tab m (λ i. tab n (f i)))) (i * n + c) d ≡ f i c
    flat-at d m i c hi hc =
        let l = concat (tab m (λ i. tab n (f i))) in
        sym (get_or-take n (drop (i * n) l) c d hc ∙ get_or-drop (i * n) l c d)
        ∙ ap (λ (x : List A). get_or x c d) (row_laid n (λ i. tab n (f i)) (λ i. length-tab n (f i)) m i hi)
        ∙ get_or-tab n (f i) c d hc

-- ---- rows by a quotient and a remainder

module _ (m n k : ℕ) (h : k < m * n) where
  pub some-columns : 0 < n
  some-columns = elim (eq-zero-or-pos n) [ inl e ↦ let z : m * n ≡ 0 = rw e (mul-zero m) in absurd (omega arith) | inr p ↦ p ]

  pub row_of : k / n < m
  row_of = (div-lt_iff_lt-mul some-columns).1 h

-- m rows of n numbers, laid out, are the numbers at k / n and k % n
pub flat-tab : (m n : ℕ) (f : ℕ → ℕ → ℕ) → tab (m * n) (λ k. f (k / n) (k % n)) ≡ concat (tab m (λ i. tab n (f i)))
flat-tab m n f =
    let rows = concat (tab m (λ i. tab n (f i))) in
    ext_get_or 0 _ rows (length-tab (m * n) _ ∙ sym (length-flat n f m))
    (λ k h0.
    let h : k < m * n = rw (length-tab (m * n)) at h0 in
    get_or-tab (m * n) (λ k. f (k / n) (k % n)) k 0 h
    ∙ sym (flat-at n f 0 m (k / n) (k % n) (row_of m n k h) (mod-lt k (some-columns m n k h)))
    ∙ ap (λ (j : ℕ). get_or rows j 0) (div-add-mod' k n))
