-- What a mask costs at the gathered prices of a column is the column's cost at the mask's sides.
-- Assumes nothing.
use Rattle.std.specs.Prelude.{if◌then◌else◌}
use mathlib.Core.Path.{◌≡◌, refl, sym, ap, ap₂, ◌∙◌}
use mathlib.Core.Logic.{◌⊎◌, inl, inr}
use mathlib.Core.Bool.{Bool, true, false}
use mathlib.Core.List.{List}
use Prim.Native.Nat.{ℕ, suc, ◌≤◌, ◌<◌}
use native.Mathlib.Omega.{arith}
use lib.Dec.{T}
use Rattle.below.specs.Below.{sum_below, ◌=?◌, ◌and◌, isnt, nth}
use Rattle.below.proofs.BelowLaws.{decided, T-isnt, isnt-T, if-true, if-false, same_test, =?-eq, eq-=?, sum-ext}
use Rattle.records.proofs.ExtentLaws.{call-of}
use Rattle.conflicts.specs.Grid.{Grid}
use Rattle.conflicts.specs.Corrections.{correction_cost, side_price, letter_weight, column_cost}
use Rattle.events.specs.Algorithm.Slots.{digit, sides_at}
use Rattle.events.proofs.GatherLaws.{gathered-sum}
use Rattle.slots.specs.Algorithm.Columns.{covers}
use Rattle.slots.specs.Algorithm.Spans.{Slotted}
use Rattle.corrections.specs.Algorithm.Sweep.{letter_price, Gathered}
use Rattle.patterns.specs.Algorithm.Patterns.{slot_share, slot_total_of, slot_cost}
use Rattle.slots.proofs.CoverLaws.{called-covers}

suc-same : (a b : ℕ) → (a =? b) ≡ (suc a =? suc b)
suc-same a b = same_test _ _ (λ t. eq-=? _ _ (ap suc (=?-eq a b t))) (λ t. let e = =?-eq (suc a) (suc b) t in eq-=? a b (omega arith))

-- a number under two tests
if-and : (p q : Bool) (w : ℕ) → (if p then (if q then w else 0) else 0) ≡ (if p and q then w else 0)
unfolding ◌and◌
if-and true q w = refl
if-and false q w = refl

if_none : (p : Bool) → ◌≡◌ {A = ℕ} (if p then 0 else 0) 0
if_none true = refl
if_none false = refl

module _ (g : Grid) (slots : List ℕ) (c mask : ℕ) (lt : c < g.n) (sl : Slotted g slots) where
  -- the weight of a letter on a side, over the slots and over the fragments
  slot-total : (prices : List ℕ) (d letter : ℕ) → 0 < letter → letter ≤ 2 → Gathered g slots c letter g.m prices
      → slot_total_of prices mask d ≡ letter_weight g (sides_at 2 (nth slots) mask) (suc d) c letter
  unfolding slot_total_of slot_share letter_weight letter_price sides_at
  slot-total prices d letter lo hi ga =
      sum-ext 8 _ _ (λ b l. ap (λ (y : ℕ). if digit 2 b mask =? d then y else 0) (ga.price b l))
      ∙ gathered-sum (covers g c) (nth slots) (letter_price g c letter) 8 (λ b y. if digit 2 b mask =? d then y else 0)
      (λ b. if_none (digit 2 b mask =? d)) g.m (λ i l t. sl.low i) (λ i j l r t u ne e. sl.differ.apart c i j lt t u ne e)
      ∙ sum-ext g.m _ _ (λ i l. here i l (decided (covers g c i)))
    where
      share : ℕ → ℕ
      share i = if digit 2 (nth slots i) mask =? d then letter_price g c letter i else 0

      term : (i : ℕ) → share i ≡ (if suc (digit 2 (nth slots i) mask) =? suc d and g.cell i c =? letter then correction_cost g i else 0)
      term i =
          if-and (digit 2 (nth slots i) mask =? d) (g.cell i c =? letter) (correction_cost g i)
          ∙ ap (λ (q : Bool). if q and g.cell i c =? letter then correction_cost g i else 0) (suc-same (digit 2 (nth slots i) mask) d)

      here : (i : ℕ) → i < g.m → T (covers g c i) ⊎ T (isnt (covers g c i))
          → (if covers g c i then share i else 0) ≡ (if suc (digit 2 (nth slots i) mask) =? suc d and g.cell i c =? letter then correction_cost g i else 0)
      here i l (inl t) = if-true (covers g c i) (share i) 0 t ∙ term i
      here i l (inr t) =
          if-false (covers g c i) (share i) 0 t
          ∙ sym (ap (λ (y : ℕ). if digit 2 (nth slots i) mask =? d then y else 0) (if-false (g.cell i c =? letter) (correction_cost g i) 0 (isnt-T _ λ u.
          let e = =?-eq (g.cell i c) letter u in
          T-isnt _ t (called-covers g c i lt l (call-of (g.cell i c) (omega arith) (omega arith))))) ∙ if_none (digit 2 (nth slots i) mask =? d))
          ∙ term i

  pub slot-cost-is : (a b : List ℕ) → Gathered g slots c 1 g.m a → Gathered g slots c 2 g.m b → slot_cost a b mask ≡ column_cost 2 g c (sides_at 2 (nth slots) mask)
  unfolding slot_cost column_cost sum_below
  slot-cost-is a b ga gb =
      let one = ap₂ side_price (slot-total a 0 1 (omega arith) (omega arith) ga) (slot-total b 0 2 (omega arith) (omega arith) gb) in
      let two = ap₂ side_price (slot-total a 1 1 (omega arith) (omega arith) ga) (slot-total b 1 2 (omega arith) (omega arith) gb) in
      omega arith
