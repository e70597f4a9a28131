-- The prices of a column are gathered into the slots of its fragments.
-- Assumes nothing.
use Rattle.std.specs.Prelude.{if◌then◌else◌}
use mathlib.Core.Path.{◌≡◌, refl, sym, subst, ◌∙◌}
use mathlib.Core.Bool.{true, false}
use mathlib.Core.List.{List}
use Prim.Native.Nat.{ℕ, zero, suc, ◌+◌, ◌*◌, ◌≤◌, ◌<◌, zero-le}
use native.Mathlib.Decide.{ℕ_discrete, dec_lt}
use native.Mathlib.Numerals.{add-one}
use native.Mathlib.Omega.{arith}
use lib.Dec.{T}
use lib.ListN.{length, get_or, set, length-set, get_or-eq_default}
use lib.Seq.{get_or-set_same, get_or-set_other}
use Rattle.below.specs.Below.{◌=?◌, ◌and◌, nth}
use Rattle.below.proofs.BelowLaws.{if-ind}
use Rattle.below.proofs.SearchLaws.{true-T, false-T}
use Rattle.conflicts.specs.Grid.{Grid}
use Rattle.conflicts.specs.Corrections.{correction_cost}
use Rattle.events.specs.Algorithm.Slots.{gathered}
use Rattle.events.proofs.GatherLaws.{gathered-here, gathered-there}
use Rattle.matrix.specs.Algorithm.Matrix.{weighted_grid, Weights}
use Rattle.patterns.specs.Algorithm.Patterns.{Prices}
use Rattle.slots.specs.Algorithm.Columns.{covers}
use Rattle.corrections.specs.Algorithm.Sweep.{letter_price, Gathered}

module _ (g : Grid) (slots : List ℕ) (c letter : ℕ) where
  pub gathered_none : (prices : List ℕ) → length prices ≡ 8 → ((b : ℕ) → get_or prices b 0 ≡ 0) → Gathered g slots c letter 0 prices
  unfolding gathered
  gathered_none prices size z = record { size = size; price = λ b lt. z b }

  -- fragment i covers the column, and its price goes to its slot
  pub gathered-put : (prices : List ℕ) (i : ℕ) → nth slots i < 8 → T (covers g c i) → Gathered g slots c letter i prices
      → Gathered g slots c letter (i + 1) (set prices (nth slots i) (letter_price g c letter i))
  gathered-put prices i low t h =
      let inside : nth slots i < length prices = let z = h.size in omega arith in
      let says = letter_price g c letter in
      record {
        size = length-set prices (nth slots i) (says i) ∙ h.size;
        price = λ b lt. rw (add-one i) (elim (ℕ_discrete b (nth slots i)) [
          | yes e ↦ subst (λ (x : ℕ). get_or (set prices (nth slots i) (says i)) x 0 ≡ gathered (covers g c) (nth slots) says (suc i) x) (sym e)
              (get_or-set_same prices (nth slots i) (says i) 0 inside ∙ sym (gathered-here (covers g c) (nth slots) says i (nth slots i) t refl))
          | no ne ↦ get_or-set_other prices (nth slots i) b (says i) 0 ne ∙ h.price b lt
              ∙ sym (gathered-there (covers g c) (nth slots) says i b (λ u e. ne (sym e)))
        ]);
      }

  pub gathered-in : {prices : List ℕ} (i : ℕ) {x : ℕ} → nth slots i < 8 → covers g c i ≡ true → x ≡ letter_price g c letter i → Gathered g slots c letter i prices
      → Gathered g slots c letter (i + 1) (set prices (nth slots i) x)
  gathered-in {prices} i low on e h = rw e (gathered-put prices i low (true-T on) h)

  -- it does not
  pub gathered-skip : {prices : List ℕ} (i : ℕ) → covers g c i ≡ false → Gathered g slots c letter i prices → Gathered g slots c letter (i + 1) prices
  gathered-skip i out h = record {
    size = h.size;
    price = λ b lt. rw (add-one i) (h.price b lt ∙ sym (gathered-there (covers g c) (nth slots) (letter_price g c letter) i b (λ u e. false-T out u)));
  }

  -- no price is over what a fragment says
  gathered-most : (k : ℕ) → ((i : ℕ) → letter_price g c letter i ≤ k) → (m b : ℕ) → gathered (covers g c) (nth slots) (letter_price g c letter) m b ≤ k
  unfolding gathered
  gathered-most k h zero b = zero-le
  gathered-most k h (suc m) b = if-ind (λ x. x ≤ k) (covers g c m and nth slots m =? b) (λ t. h m) (λ t. gathered-most k h m b)

  pub gathered-prices : (m : ℕ) (prices : List ℕ) → ((i : ℕ) → letter_price g c letter i ≤ 60) → Gathered g slots c letter m prices → Prices prices
  gathered-prices m prices light h = record {
    most = λ b. elim (dec_lt b 8) [
      | yes lt ↦ rw (h.price b lt) (gathered-most 60 light m b)
      | no ge ↦ rw (get_or-eq_default prices 0 {n = b} (let z = h.size in omega arith)) zero-le
    ];
  }

-- the price of a letter in a weighted matrix
pub price-is : (m n : ℕ) (cells weights : List ℕ) (c letter i : ℕ) → letter_price (weighted_grid m n cells weights) c letter i ≡ (if get_or cells (i * 128 + c) 0 =? letter then nth weights i else 0)
unfolding letter_price weighted_grid correction_cost
price-is m n cells weights c letter i = refl

pub price-most : (m n : ℕ) (cells weights : List ℕ) → Weights weights → (c letter i : ℕ) → letter_price (weighted_grid m n cells weights) c letter i ≤ 60
unfolding letter_price weighted_grid correction_cost
price-most m n cells weights w c letter i = if-ind (λ x. x ≤ 60) (get_or cells (i * 128 + c) 0 =? letter) (λ t. w.most i) (λ t. zero-le)
