-- What given sides weigh over all the events: the weights of the columns, and those of the fragments that enter.
-- Assumes nothing.
use Rattle.std.specs.Prelude.{if◌then◌else◌}
use mathlib.Core.Path.{◌≡◌, refl, sym, ap, ap₂, ◌∙◌}
use mathlib.Core.Bool.{Bool, true, false}
use mathlib.Core.List.{List, ◌∷◌}
use Prim.Native.Nat.{ℕ, zero, suc, ◌+◌, ◌≤◌, ◌<◌, zero-le}
use native.Mathlib.Nat.{le_refl}
use native.Mathlib.Decide.{ℕ_discrete, dec_lt}
use native.Mathlib.Omega.{arith}
use Rattle.below.specs.Below.{sum_below, ◌=?◌, ◌<?◌}
use Rattle.below.proofs.BelowLaws.{sum-ext, sum-le, sum-add, sum-swap, if-ind, if-true, if-false, eq-=?, ne-isnt, lt-<?, le-isnt, isnt-<?}
use Rattle.events.specs.Algorithm.Events.{Event, enter, charge, entering, events_from, events}
use Rattle.events.proofs.EventLaws.{total_weight}

-- ---- sums

sum_head : (n : ℕ) (f : ℕ → ℕ) → sum_below (suc n) f ≡ f 0 + sum_below n (λ i. f (suc i))
unfolding sum_below
sum_head zero f = omega arith
sum_head (suc n) f = let e = sum_head n f in omega arith

-- two functions that differ at one number below n, by y
pub sum_more : (n : ℕ) (f g : ℕ → ℕ) (a y : ℕ) → a < n → g a ≡ f a + y → ((i : ℕ) → (i ≡ a → ⊥) → g i ≡ f i) → sum_below n g ≡ sum_below n f + y
unfolding sum_below
sum_more zero f g a y lt here there = absurd (omega arith)
sum_more (suc n) f g a y lt here there = elim (ℕ_discrete n a) [
  | yes e ↦
      let low = sum-ext n g f (λ i l. there i (λ q. omega arith)) in
      let last : g n ≡ f n + y = rw e here in
      omega arith
  | no ne ↦ let low = sum_more n f g a y (omega arith) here there in let last = there n ne in omega arith
]

-- the one number below n that is a
pub sum_one : (n a y : ℕ) → sum_below n (λ c. if a =? c then y else 0) ≡ if a <? n then y else 0
unfolding sum_below
sum_one zero a y = sym (if-false (a <? 0) y 0 (le-isnt a 0 zero-le))
sum_one (suc n) a y = elim (ℕ_discrete a n) [
  | yes e ↦
      let low = sum_one n a y ∙ if-false (a <? n) y 0 (le-isnt a n (omega arith)) in
      let last = if-true (a =? n) y 0 (eq-=? a n e) in
      let all = if-true (a <? suc n) y 0 (lt-<? a (suc n) (omega arith)) in
      omega arith
  | no ne ↦
      let low = sum_one n a y in
      let last = if-false (a =? n) y 0 (ne-isnt a n ne) in
      let same = other (dec_lt a n) ne in
      omega arith
]
  where
    other : Dec (a < n) → (a ≡ n → ⊥) → (if a <? n then y else 0) ≡ if a <? suc n then y else 0
    other (yes l) ne = if-true (a <? n) y 0 (lt-<? a n l) ∙ sym (if-true (a <? suc n) y 0 (lt-<? a (suc n) (omega arith)))
    other (no nl) ne = if-false (a <? n) y 0 (le-isnt a n (omega arith)) ∙ sym (if-false (a <? suc n) y 0 (le-isnt a (suc n) (omega arith)))

-- ---- all the events

module _ (on_side : ℕ → ℕ → ℕ) (at_column : ℕ → (ℕ → ℕ) → ℕ) (start : ℕ → ℕ) (t : ℕ → ℕ) where
  abbrev pay : ℕ → ℕ → ℕ
  pay c i = if start i =? c then on_side i (t i) else 0

  total-entering : (c : ℕ) (rest : List Event) (j f : ℕ)
      → total_weight on_side at_column (entering start c f j rest) t ≡ sum_below j (λ i. pay c (f + i)) + total_weight on_side at_column rest t
  unfolding entering total_weight sum_below
  total-entering c rest zero f = omega arith
  total-entering c rest (suc j) f =
      let r : ℕ = total_weight on_side at_column rest t in
      let deeper : total_weight on_side at_column (entering start c (suc f) j rest) t ≡ sum_below j (λ i. pay c (suc f + i)) + r = total-entering c rest j (suc f) in
      let step : total_weight on_side at_column (if start f =? c then enter f ∷ entering start c (suc f) j rest else entering start c (suc f) j rest) t
      ≡ pay c f + total_weight on_side at_column (entering start c (suc f) j rest) t = one (start f =? c) (entering start c (suc f) j rest) in
      let head : sum_below (suc j) (λ i. pay c (f + i)) ≡ pay c (f + 0) + sum_below j (λ i. pay c (f + suc i)) = sum_head j (λ i. pay c (f + i)) in
      let zero-place : pay c (f + 0) ≡ pay c f = ap (pay c) (omega arith) in
      let tail : sum_below j (λ i. pay c (f + suc i)) ≡ sum_below j (λ i. pay c (suc f + i)) = sum-ext j _ _ (λ i l. ap (pay c) (omega arith)) in
      step ∙ ap (λ (x : ℕ). pay c f + x) deeper ∙ (let e : pay c f + (sum_below j (λ i. pay c (suc f + i)) + r) ≡ pay c f + sum_below j (λ i. pay c (suc f + i)) + r = omega arith in e)
      ∙ ap (λ (x : ℕ). x + r) (ap₂ ◌+◌ (sym zero-place) (sym tail) ∙ sym head)
    where
      one : (b : Bool) (es : List Event) → total_weight on_side at_column (if b then enter f ∷ es else es) t ≡ (if b then on_side f (t f) else 0) + total_weight on_side at_column es t
      one true es = refl
      one false es = omega arith

  total-from : (m k c : ℕ) → total_weight on_side at_column (events_from start m c k) t ≡ sum_below k (λ i. sum_below m (pay (c + i)) + at_column (c + i) t)
  unfolding events_from total_weight sum_below
  total-from m zero c = refl
  total-from m (suc k) c =
      let g : ℕ → ℕ = λ x. sum_below m (pay x) + at_column x t in
      let a = total-entering c (charge c ∷ events_from start m (suc c) k) m 0 in
      let places : sum_below m (λ i. pay c (0 + i)) ≡ sum_below m (pay c) = sum-ext m _ _ (λ i l. ap (pay c) (omega arith)) in
      let deeper : total_weight on_side at_column (events_from start m (suc c) k) t ≡ sum_below k (λ i. g (suc c + i)) = total-from m k (suc c) in
      let tail : sum_below k (λ i. g (c + suc i)) ≡ sum_below k (λ i. g (suc c + i)) = sum-ext k _ _ (λ i l. ap g (omega arith)) in
      let first : g (c + 0) ≡ g c = ap g (omega arith) in
      a ∙ ap₂ ◌+◌ places (ap (λ (x : ℕ). at_column c t + x) deeper)
      ∙ (let e : sum_below m (pay c) + (at_column c t + sum_below k (λ i. g (suc c + i))) ≡ g c + sum_below k (λ i. g (suc c + i)) = omega arith in e)
      ∙ ap₂ ◌+◌ (sym first) (sym tail) ∙ sym (sum_head k (λ i. g (c + i)))

  total-events : (m n : ℕ) → total_weight on_side at_column (events start m n) t ≡ sum_below n (λ c. at_column c t) + sum_below m (λ i. if start i <? n then on_side i (t i) else 0)
  total-events m n =
      let places : sum_below n (λ i. sum_below m (pay (0 + i)) + at_column (0 + i) t) ≡ sum_below n (λ c. sum_below m (pay c) + at_column c t) =
      sum-ext n _ _ (λ i l. ap (λ (x : ℕ). sum_below m (pay x) + at_column x t) (omega arith)) in
      let swapped : sum_below n (λ c. sum_below m (pay c)) ≡ sum_below m (λ i. sum_below n (λ c. pay c i)) = sum-swap n m pay in
      let ones : sum_below m (λ i. sum_below n (λ c. pay c i)) ≡ sum_below m (λ i. if start i <? n then on_side i (t i) else 0) =
      sum-ext m _ _ (λ i l. sum_one n (start i) (on_side i (t i))) in
      let add : sum_below n (λ c. sum_below m (pay c) + at_column c t) ≡ sum_below n (λ c. sum_below m (pay c)) + sum_below n (λ c. at_column c t) = sum-add n (λ c. sum_below m (pay c)) (λ c. at_column c t) in
      let whole = total-from m n 0 in
      omega arith

  -- no more than the weights of all fragments
  pub total-le : (m n : ℕ) → total_weight on_side at_column (events start m n) t ≤ sum_below n (λ c. at_column c t) + sum_below m (λ i. on_side i (t i))
  total-le m n =
      let e = total-events m n in
      let l : sum_below m (λ i. if start i <? n then on_side i (t i) else 0) ≤ sum_below m (λ i. on_side i (t i)) =
      sum-le m _ _ (λ i l. if-ind (λ x. x ≤ on_side i (t i)) (start i <? n) (λ q. le_refl _) (λ q. zero-le)) in
      omega arith

  -- the weights of all fragments, where one that does not enter weighs nothing
  pub total-is : (m n : ℕ) → ((i : ℕ) → i < m → n ≤ start i → on_side i (t i) ≡ 0)
      → total_weight on_side at_column (events start m n) t ≡ sum_below n (λ c. at_column c t) + sum_below m (λ i. on_side i (t i))
  total-is m n h =
      let e = total-events m n in
      let l : sum_below m (λ i. if start i <? n then on_side i (t i) else 0) ≡ sum_below m (λ i. on_side i (t i)) =
      sum-ext m _ _ (λ i l. if-ind (λ x. x ≡ on_side i (t i)) (start i <? n) (λ q. refl) (λ q. sym (h i l (isnt-<? _ _ q)))) in
      omega arith
