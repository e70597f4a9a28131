-- Words joined one after the other, fields by whether they are empty, and the parts of a list.
-- Assumes nothing.
use mathlib.Core.Path.{◌≡◌, refl, sym, ap, ◌∙◌}
use mathlib.Core.List.{List, [], ◌∷◌, ◌++◌, map, append-nil, append_assoc}
use Prim.Native.Nat.{ℕ, zero, suc, ◌+◌, ◌-◌, ◌<◌, ◌≤◌}
use Prim.Native.Char.{Char, code}
use native.Mathlib.Nat.{not-suc-le-zero}
use native.Mathlib.Omega.{arith}
use lib.ListN.{length, get_or, take, drop, length-append}
use lib.Seq.{take_all}
use Rattle.std.proofs.lemmas.List.{take_more, map-append}
use Rattle.below.specs.Below.{tab, tab_from}
use Rattle.below.specs.Text.{ascii}
use Rattle.below.proofs.RowLaws.{part-again}
use Rattle.listing.specs.Listing.{led, joined, field}

pub led-append : (separator : Char) (us vs : List (List ℕ)) → led separator (us ++ vs) ≡ led separator us ++ led separator vs
unfolding led
led-append separator [] vs = refl
led-append separator (u ∷ us) vs = rw (led-append separator us vs, append_assoc)

-- one entry more of a list, of which each gives a byte, or a word after a separator
module _ (l : List ℕ) (i : ℕ) (h : i < length l) where
  pub bytes-more : (f : ℕ → ℕ) → map f (take (i + 1) l) ≡ map f (take i l) ++ (f (get_or l i 0) ∷ [])
  bytes-more f = rw (take_more l i 0 h, map-append)

  pub words-more : (separator : Char) (f : ℕ → List ℕ) → led separator (map f (take (i + 1) l)) ≡ led separator (map f (take i l)) ++ (code separator ∷ f (get_or l i 0))
  unfolding led
  words-more separator f = rw (take_more l i 0 h, map-append, led-append, append-nil)

-- ---- fields

-- a field that is not empty stands as it is
pub field-some : (text : List ℕ) → 0 < length text → field text ≡ text
unfolding field
field-some [] h = absurd (not-suc-le-zero h)
field-some (b ∷ bs) h = refl

-- a field of signs, by how many there are
pub signs-none : (f : ℕ → ℕ) (codes : List ℕ) → length codes < 1 → field (map f codes) ≡ ascii "."
unfolding field ascii
signs-none f [] h = refl
signs-none f (b ∷ bs) h = absurd (omega arith)

pub signs-some : (f : ℕ → ℕ) (codes : List ℕ) → 1 ≤ length codes → field (map f codes) ≡ map f codes
signs-some f [] h = absurd (not-suc-le-zero h)
signs-some f (b ∷ bs) h = field-some _ (omega arith)

-- a field of words, by how many there are
module _ (separator : Char) (f : ℕ → List ℕ) where
  pub words-none : (codes : List ℕ) → length codes < 1 → field (joined separator (map f codes)) ≡ ascii "."
  unfolding field joined ascii
  words-none [] h = refl
  words-none (b ∷ bs) h = absurd (omega arith)

  pub words-some : (codes : List ℕ) → 1 ≤ length codes → ((b : ℕ) → 0 < length (f b)) → field (joined separator (map f codes)) ≡ f (get_or codes 0 0) ++ led separator (map f (take (length codes - 1) (drop 1 codes)))
  unfolding joined
  words-some [] h some = absurd (not-suc-le-zero h)
  words-some (b ∷ bs) h some =
      let s = some b in
      let e : take (length (b ∷ bs) - 1) bs ≡ bs = take_all _ bs (omega arith) in
      rw e (field-some _ (rw length-append (omega arith)))

-- ---- parts

module _ {A : Type 0} (f : ℕ → A) where
  mapped-from : (k n : ℕ) (g : ℕ → ℕ) → map f (tab_from k n g) ≡ tab_from k n (λ i. f (g i))
  unfolding tab_from
  mapped-from k zero g = refl
  mapped-from k (suc n) g = ap (λ (l : List A). f (g k) ∷ l) (mapped-from (suc k) n g)

  -- n entries of a list from one place on, each by what it prints as
  pub part-mapped : (at n : ℕ) (l : List ℕ) → at + n ≤ length l → map f (take n (drop at l)) ≡ tab n (λ i. f (get_or l (at + i) 0))
  unfolding tab
  part-mapped at n l h = ap (map f) (sym (part-again 0 n at l h)) ∙ mapped-from 0 n (λ i. get_or l (at + i) 0)
