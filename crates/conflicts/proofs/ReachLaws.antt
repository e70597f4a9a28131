-- m steps reach whatever a chain reaches.
-- Assumes nothing.
use mathlib.Core.Path.{◌≡◌, refl, subst}
use mathlib.Core.Logic.{◌⊎◌, inl, inr}
use mathlib.Core.Bool.{Bool, false}
use Prim.Native.Nat.{ℕ, zero, suc, ◌+◌, ◌≤◌, ◌<◌}
use native.Mathlib.Omega.{arith}
use lib.Dec.{T}
use lib.ListN.{get_or}
use Rattle.below.specs.Below.{bit, any_below, count_below, first_below, ◌=?◌, ◌and◌, ◌or◌, isnt, tab, ◌<?◌}
use Rattle.below.proofs.BelowLaws.{both, left-of, right_of, or_left, or_right, or_cases, decided, any_below-at, any_below-of, get_or-tab, bit-marked, marked-bit, count-lt, count-bound, first_below-at, first_below-least, =?-eq, =?-refl, T-isnt}
use Rattle.conflicts.specs.Choice.{marked}
use Rattle.conflicts.specs.Blocks.{Chain, alone, onward, reached, lowest}

-- 0, 1, 2, each linked to the next: 2 reaches 0
chain : lowest 3 (λ i j. i =? j + 1 or j =? i + 1) 2 ≡ 0
unfolding lowest reached marked any_below first_below tab ◌=?◌ ◌<?◌ ◌and◌ ◌or◌
chain = refl

module _ (m : ℕ) (link : ℕ → ℕ → Bool) (i : ℕ) where
  -- j is reached in k steps
  abbrev R : ℕ → ℕ → Bool
  R k j = marked (reached m link i k) j

  test : ℕ → ℕ → Bool
  test k j = marked (reached m link i k) j or any_below m (λ h. marked (reached m link i k) h and link h j)

  step_is : (k j : ℕ) → j < m → get_or (reached m link i (suc k)) j 0 ≡ bit (test k j)
  unfolding reached test
  step_is k j hj = get_or-tab m (λ j. bit (test k j)) j 0 hj

  stay : (k j : ℕ) → j < m → T (R k j) → T (R (suc k) j)
  unfolding marked test
  stay k j hj t = rw (step_is k j hj) (marked-bit (test k j) (or_left _ _ t))

  go_on : (k h j : ℕ) → h < m → j < m → T (R k h) → T (link h j) → T (R (suc k) j)
  unfolding marked test
  go_on k h j hh hj t l = rw (step_is k j hj) (marked-bit (test k j) (or_right _ _ (any_below-of m _ h hh (both _ _ t l))))

  came : (k j : ℕ) → j < m → T (R (suc k) j) → T (R k j) ⊎ ((h : ℕ) × (h < m) × T (R k h) × T (link h j))
  unfolding marked test
  came k j hj t = go (or_cases _ _ (bit-marked (test k j) (rw (step_is k j hj) at t)))
    where
      go : T (R k j) ⊎ T (any_below m (λ h. R k h and link h j)) → T (R k j) ⊎ ((h : ℕ) × (h < m) × T (R k h) × T (link h j))
      go (inl s) = inl s
      go (inr s) = let w = any_below-at m _ s in inr (w.0, w.1, left-of _ _ w.2, right_of _ _ w.2)

  -- the next step reaches nothing new
  abbrev Stable : ℕ → Type 0
  Stable k = (j : ℕ) → j < m → T (R (suc k) j) → T (R k j)

  stable-next : (k : ℕ) → Stable k → Stable (suc k)
  stable-next k s j hj t = go (came (suc k) j hj t)
    where
      go : T (R (suc k) j) ⊎ ((h : ℕ) × (h < m) × T (R (suc k) h) × T (link h j)) → T (R (suc k) j)
      go (inl r) = r
      go (inr w) = go_on k w.0 j w.1 hj (s w.0 w.1 w.2) w.3

  grows : ℕ → ℕ → Bool
  grows k j = R (suc k) j and isnt (R k j)

  module _ (inside : i < m) where
    origin : T (R 0 i)
    unfolding marked reached
    origin = rw (get_or-tab m (λ j. bit (i =? j)) i 0 inside) (marked-bit (i =? i) (=?-refl i))

    -- each step reaches something new, until nothing new is reached any more
    progress : (k : ℕ) → Stable k ⊎ (k < count_below m (R k))
    unfolding grows isnt
    progress zero = let c = count-lt m (λ j. false) (R 0) (λ j hj t. absurd t) i inside tt origin in inr (omega arith)
    progress (suc k) = go (progress k) (decided (any_below m (grows k)))
      where
        quiet : T (isnt (any_below m (grows k))) → Stable k
        quiet n j hj t = case (decided (R k j))
          where
            case : T (R k j) ⊎ T (isnt (R k j)) → T (R k j)
            case (inl s) = s
            case (inr s) = absurd (T-isnt (any_below m (grows k)) n (any_below-of m (grows k) j hj (both (R (suc k) j) (isnt (R k j)) t s)))

        go : Stable k ⊎ (k < count_below m (R k)) → T (any_below m (grows k)) ⊎ T (isnt (any_below m (grows k))) → Stable (suc k) ⊎ (suc k < count_below m (R (suc k)))
        go (inl s) (inr n) = inl (stable-next k s)
        go (inr c) (inr n) = inl (stable-next k (quiet n))
        go (inl s) (inl g) =
            let w = any_below-at m (grows k) g in
            let new = left-of (R (suc k) w.0) (isnt (R k w.0)) w.2 in
            absurd (T-isnt (R k w.0) (right_of (R (suc k) w.0) (isnt (R k w.0)) w.2) (s w.0 w.1 new))
        go (inr c) (inl g) =
            let w = any_below-at m (grows k) g in
            let new = left-of (R (suc k) w.0) (isnt (R k w.0)) w.2 in
            let more = count-lt m (R k) (R (suc k)) (stay k) w.0 w.1 (right_of (R (suc k) w.0) (isnt (R k w.0)) w.2) new in
            inr (omega arith)

    settled : Stable m
    settled = go (progress m)
      where
        go : Stable m ⊎ (m < count_below m (R m)) → Stable m
        go (inl s) = s
        go (inr c) = let b = count-bound m (R m) in absurd (omega arith)

    origin-at : (k : ℕ) → T (R k i)
    origin-at zero = origin
    origin-at (suc k) = stay k i inside (origin-at k)

    -- m steps reach whatever a chain reaches
    pub chain-reached : {j : ℕ} → Chain m link i j → j < m → T (R m j)
    chain-reached alone h = origin-at m
    chain-reached {j} (onward {h} c hh l) hj = settled j hj (go_on m h j hh hj (chain-reached c hh) l)

    -- what is reached is reached by a chain
    pub reached-chain : (k j : ℕ) → j < m → T (R k j) → Chain m link i j
    unfolding marked reached
    reached-chain zero j hj t =
        subst (λ (j : ℕ). Chain m link i j) (=?-eq _ _ (bit-marked (i =? j) (rw (get_or-tab m (λ j. bit (i =? j)) j 0 hj) at t))) alone
    reached-chain (suc k) j hj t = go (came k j hj t) (reached-chain k)
      where
        go : T (R k j) ⊎ ((h : ℕ) × (h < m) × T (R k h) × T (link h j)) → ((h : ℕ) → h < m → T (R k h) → Chain m link i h) → Chain m link i j
        go (inl s) f = f j hj s
        go (inr w) f = onward (f w.0 w.1 w.2) w.1 w.3

    -- the lowest number reached: it is below m, a chain joins it, and none lower is joined
    pub lowest-least : {j : ℕ} → Chain m link i j → j < m → lowest m link i ≤ j
    unfolding lowest
    lowest-least {j} c hj = first_below-least m (R m) j hj (chain-reached c hj)

    pub lowest-inside : lowest m link i < m
    unfolding lowest
    lowest-inside = let h = first_below-least m (R m) i inside (origin-at m) in omega arith

    pub lowest-chain : Chain m link i (lowest m link i)
    unfolding lowest
    lowest-chain = reached-chain m (first_below m (R m)) lowest-inside (first_below-at m (R m) lowest-inside)

-- Where links go both _ _ numbers have the same lowest number exactly if a chain joins them.
module _ (m : ℕ) (link : ℕ → ℕ → Bool) (back : (a b : ℕ) → T (link a b) → T (link b a)) where
  chain-trans : {a b c : ℕ} → Chain m link a b → Chain m link b c → Chain m link a c
  chain-trans p alone = p
  chain-trans p (onward q h l) = onward (chain-trans p q) h l

  chain-sym : {a b : ℕ} → b < m → Chain m link a b → Chain m link b a
  chain-sym h alone = alone
  chain-sym {a} {b} hb (onward {h} q hh l) = chain-trans (onward alone hb (back h b l)) (chain-sym hh q)

  pub joined_same : (a b : ℕ) → a < m → b < m → Chain m link a b → lowest m link a ≡ lowest m link b
  joined_same a b ha hb c =
      let u = lowest-least m link a ha (chain-trans c (lowest-chain m link b hb)) (lowest-inside m link b hb) in
      let v = lowest-least m link b hb (chain-trans (chain-sym hb c) (lowest-chain m link a ha)) (lowest-inside m link a ha) in
      omega arith

  pub same-joined : (a b : ℕ) → a < m → b < m → lowest m link a ≡ lowest m link b → Chain m link a b
  same-joined a b ha hb e =
      chain-trans (subst (λ (k : ℕ). Chain m link a k) e (lowest-chain m link a ha)) (chain-sym (lowest-inside m link b hb) (lowest-chain m link b hb))
