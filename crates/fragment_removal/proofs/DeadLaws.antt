-- States that reach no further than any later fragment starts: whichever of them a side is at, it keeps as much.
-- Assumes nothing.
use mathlib.Core.Path.{◌≡◌, refl, sym, ap, ◌∙◌}
use mathlib.Core.Logic.{inl, inr}
use mathlib.Core.Bool.{true}
use mathlib.Core.List.{List}
use Prim.Native.Nat.{ℕ, zero, suc, ◌+◌, ◌-◌, ◌≤◌, ◌<◌, max, zero-le}
use native.Mathlib.Nat.{le_refl, eq-zero-or-pos, max-le, le-max_right, max-eq_left, max-eq_right}
use native.Mathlib.Numerals.{add-one}
use native.Mathlib.Decide.{ℕ_discrete, dec_le}
use native.Mathlib.Omega.{arith}
use Rattle.below.specs.Below.{nth}
use Rattle.below.proofs.SearchLaws.{T_true}
use Rattle.fields.specs.Writing.{calls_span_of}
use Rattle.records.proofs.ExtentLaws.{extent-of}
use Rattle.conflicts.specs.Grid.{Grid, conflict_on}
use Rattle.conflicts.proofs.CorrectionLaws.{conflict-calls}
use Rattle.ranks.specs.Algorithm.Weight.{removal}
use Rattle.fragment_states.specs.Algorithm.Fragments.{reach, state_reach_of, can_join}
use Rattle.fragment_pairs.specs.Algorithm.Layer.{furthest}
use Rattle.fragment_pairs.specs.Algorithm.Pairs.{Copied}
use Rattle.fragment_pairs.proofs.PairLaws.{keep_same, keep-swap, further, no-further}
use Rattle.fragment_removal.specs.Algorithm.Programme.{most_kept}
use Rattle.fragment_removal.specs.Algorithm.Holding.{HoldsFragments, Dead, Behind}
use Rattle.fragment_removal.proofs.Lemma18.{start, agree_of, calls-from, calls-to}

module _ (g : Grid) where
  -- ---- one fragment and a state that reaches no further than it starts

  -- it agrees with the state
  dead-agrees : (s i : ℕ) → state_reach_of g s ≤ start g i → can_join g s i ≡ true
  unfolding can_join state_reach_of conflict_on
  dead-agrees zero i h = refl
  dead-agrees (suc p) i h = T_true _ (agree_of g p i (λ c hc t.
      let both = conflict-calls (g.cell p c) (g.cell i c) t in
      let hi = calls-to g p c hc both.0 in
      let lo = calls-from g i c both.1 in
      omega arith))

  next-reach : (i : ℕ) → state_reach_of g (i + 1) ≡ reach g i
  unfolding state_reach_of
  next-reach i = rw add-one

  -- a fragment that has a call ends past its start
  start-before : (i : ℕ) → 0 < reach g i → start g i < reach g i
  unfolding reach calls_span_of
  start-before i h = elim (dec_le (reach g i) (start g i)) [ yes le ↦ let z = (extent-of g.n (g.cell i)).none (omega arith) in absurd (omega arith) | no nle ↦ omega arith ]

  -- if it has a call, the state moves on to it
  dead-moves : (s i : ℕ) → state_reach_of g s ≤ start g i → 0 < reach g i → furthest (state_reach_of g) s i ≡ i + 1
  dead-moves s i h pos = let far = start-before i pos in let e = next-reach i in sym (further (state_reach_of g) s i (omega arith))

  -- if it has none, the state stays
  dead-stays : (s i : ℕ) → reach g i ≡ 0 → furthest (state_reach_of g) s i ≡ s
  dead-stays s i z = let e = next-reach i in sym (no-further (state_reach_of g) s i (omega arith))

  -- ---- the last k fragments

  pub dead-none : (d : ℕ) → Dead g 0 d
  dead-none d = record { behind = λ s p hs lo hi. absurd (omega arith) }

  dead-less : {k d : ℕ} → Dead g (suc k) d → Dead g k d
  dead-less dead = record { behind = λ s p hs lo hi. dead.behind s p hs (omega arith) hi }

  -- side 1 keeps as much at one dead state as at another: so it is with one fragment more
  module _ (k d : ℕ) (km : suc k ≤ g.m) (dead : Dead g (suc k) d) (s t : ℕ) (hs : s ≤ d) (ht : t ≤ d) (deeper : (l : ℕ) → most_kept g k s l ≡ most_kept g k t l) where
    here : ℕ
    here = g.m - suc k

    behind : (s : ℕ) → s ≤ d → state_reach_of g s ≤ start g here
    unfolding here
    behind s hs = dead.behind s here hs (le_refl here) (omega arith)

    moved : (l : ℕ) → most_kept g k (furthest (state_reach_of g) s here) l ≡ most_kept g k (furthest (state_reach_of g) t here) l
    moved l = elim (eq-zero-or-pos (reach g here)) [
      | inl z ↦ ap (λ (x : ℕ). most_kept g k x l) (dead-stays s here z) ∙ deeper l ∙ sym (ap (λ (x : ℕ). most_kept g k x l) (dead-stays t here z))
      | inr pos ↦ ap (λ (x : ℕ). most_kept g k x l) (dead-moves s here (behind s hs) pos ∙ sym (dead-moves t here (behind t ht) pos))
    ]

    dead-step : (l : ℕ) → most_kept g (suc k) s l ≡ most_kept g (suc k) t l
    unfolding most_kept here
    dead-step l = keep_same {b = can_join g l here} {own = removal here} (dead-agrees s here (behind s hs) ∙ sym (dead-agrees t here (behind t ht))) refl refl (moved l) (deeper (furthest (state_reach_of g) l here)) (deeper l)

  pub dead-same : (k d : ℕ) → k ≤ g.m → Dead g k d → (s t : ℕ) → s ≤ d → t ≤ d → (l : ℕ) → most_kept g k s l ≡ most_kept g k t l
  unfolding most_kept
  dead-same zero d km dead s t hs ht l = refl
  dead-same (suc k) d km dead s t hs ht l = dead-step k d km dead s t hs ht (dead-same k d (omega arith) (dead-less dead) s t hs ht) l

  -- the sides are alike
  pub kept-swap : (k h l : ℕ) → most_kept g k h l ≡ most_kept g k l h
  unfolding most_kept
  kept-swap zero h l = refl
  kept-swap (suc k) h l =
      let i = g.m - suc k in
      let v = most_kept g k in
      keep-swap (can_join g h i) (can_join g l i) _ _ (v h l)
      ∙ keep_same {a = can_join g l i} {b = can_join g h i} {own = removal i} refl refl refl (kept-swap k h (furthest (state_reach_of g) l i)) (kept-swap k (furthest (state_reach_of g) h i) l) (kept-swap k h l)

-- ---- what the table holds

module _ (g : Grid) (k d : ℕ) (km : k ≤ g.m) (dead : Dead g k d) where
  -- state d in place of one before it
  kept-later : (h l : ℕ) → most_kept g k (max h d) l ≡ most_kept g k h l
  kept-later h l = elim (dec_le d h) [
    | yes le ↦ ap (λ (x : ℕ). most_kept g k x l) (max-eq_left le)
    | no nle ↦ ap (λ (x : ℕ). most_kept g k x l) (max-eq_right {n = h} {m = d} (omega arith)) ∙ dead-same g k d km dead d h (le_refl d) (omega arith) l
  ]

  -- the table holds the weights of the states that come to life
  pub holds-born : (v w : ℕ → ℕ → ℕ) (e n : ℕ) → d ≤ g.m - k → n ≡ g.m - k → HoldsFragments g k d v → Copied v w e d n → HoldsFragments g k e w
  holds-born v w e n dm nm held copies = record { holds = holds }
    where
      holds : (h l : ℕ) → e ≤ h → e ≤ l → h ≤ g.m - k → l ≤ g.m - k → w h l ≡ most_kept g k h l
      holds h l eh el hm lm =
          copies.copied h l eh el (omega arith) (omega arith) ∙ held.holds (max h d) (max l d) (le-max_right h d) (le-max_right l d) (max-le hm dm) (max-le lm dm)
          ∙ kept-later h (max l d) ∙ kept-swap g k h (max l d) ∙ kept-later l h ∙ kept-swap g k l h

  -- one fragment more, that starts no sooner than the states up to e reach
  pub dead-more : (reaches : List ℕ) (e i first : ℕ) → e ≤ d → k < g.m → i ≡ g.m - 1 - k → ((s : ℕ) → s < g.m + 1 → nth reaches s ≡ state_reach_of g s) → e ≤ i
      → first ≡ start g i → Behind reaches first e → Dead g (k + 1) e
  dead-more reaches e i first ed kin is reach ei starts behind = record { behind = all }
    where
      all : (s p : ℕ) → s ≤ e → g.m - (k + 1) ≤ p → p < g.m → state_reach_of g s ≤ start g p
      all s p se lo hi = elim (ℕ_discrete p i) [
        | yes same ↦ rw same (let b = behind.behind s se in let r = reach s (omega arith) in omega arith)
        | no ne ↦ dead.behind s p (omega arith) (omega arith) hi
      ]

-- ---- the states behind a start

pub behind-none : (reaches : List ℕ) (first : ℕ) → nth reaches 0 ≡ 0 → Behind reaches first 0
behind-none reaches first e = record { behind = λ s l. let z : s ≡ 0 = omega arith in rw (z, e) zero-le }

pub behind_more : (reaches : List ℕ) (first s : ℕ) → Behind reaches first s → nth reaches (s + 1) ≤ first → Behind reaches first (s + 1)
behind_more reaches first s b h = record { behind = λ t l. elim (ℕ_discrete t (s + 1)) [ yes e ↦ rw e h | no ne ↦ b.behind t (omega arith) ] }
