-- What the table holds after each fragment, and the room that it leaves for the next.
-- Assumes nothing.
use Rattle.std.specs.Prelude.{if◌then◌else◌}
use mathlib.Core.Path.{◌≡◌, refl, sym, ap, ap₂, subst, ◌∙◌}
use mathlib.Core.Bool.{Bool}
use mathlib.Core.List.{List}
use Prim.Native.Nat.{ℕ, suc, ◌+◌, ◌*◌, ◌^◌, ◌-◌, ◌≤◌, ◌<◌}
use native.Mathlib.Nat.{le_refl}
use native.Mathlib.Numerals.{add-one}
use native.Mathlib.Omega.{arith}
use lib.ListN.{replicate, take}
use Rattle.std.proofs.lemmas.List.{take-replicate}
use Rattle.below.specs.Below.{bit, ◌<?◌}
use Rattle.below.proofs.BelowLaws.{same_test, bit-marked, marked-bit}
use Rattle.conflicts.specs.Choice.{marked}
use Rattle.conflicts.specs.Grid.{Grid}
use Rattle.conflicts.specs.Minimality.{everything}
use Rattle.ranks.specs.declared.rank.Rank.{Rank}
use Rattle.ranks.specs.Algorithm.Weight.{top, place, places_of, AtMost, removal}
use Rattle.ranks.specs.Algorithm.Reading.{value}
use Rattle.ranks.specs.Algorithm.Tables.{weights_of}
use Rattle.ranks.proofs.WeightLaws.{places-top, at_most-more}
use Rattle.ranks.proofs.TableLaws.{parts-small, zeros-weights}
use Rattle.fragment_states.specs.Algorithm.Fragments.{Between, state_reach_of, can_join}
use Rattle.fragment_pairs.specs.Algorithm.Layer.{furthest, with_fragment_in}
use Rattle.fragment_pairs.specs.Algorithm.Pairs.{corner, pairs, FragmentRoom, Made}
use Rattle.fragment_pairs.proofs.PairLaws.{keep_same, furthest-range}
use Rattle.fragment_removal.specs.Algorithm.Programme.{most_kept}
use Rattle.fragment_removal.specs.Algorithm.Holding.{HoldsFragments}
use Rattle.fragment_removal.proofs.SumLaws.{last_sum, last-first}
use Rattle.fragment_removal.proofs.ProgrammeLaws.{one-removed, kept_small}

-- the weight of one removal, as a count and a place
pub removal-of : {v : ℕ} (p : ℕ) → v ≡ 1 * top + place p → v ≡ removal p
removal-of p e = omega arith

-- the marks of the states that a fragment agrees with
pub between-marks : (p : ℕ → Bool) (k n : ℕ) (list : List ℕ) → Between (λ s. bit (p s)) k n list → (s : ℕ) → k ≤ s → s < n → marked list s ≡ p s
unfolding marked
between-marks p k n list b s g h = rw (b.between s g h) (same_test (0 <? bit (p s)) (p s) (bit-marked (p s)) (marked-bit (p s)))

-- a table of zeros, its counts the first places of a buffer of zeros
pub zeros-pairs : {size : ℕ} {buffer counts table : List ℕ} → 8385 ≤ size → buffer ≡ replicate size 0 → counts ≡ take 8385 buffer → table ≡ weights_of counts (replicate 8385 0) (replicate 8385 0)
    → (h l : ℕ) → pairs table h l ≡ 0
zeros-pairs {size} room zeros first is h l = rw (is, first, zeros, take-replicate {X = ℕ} 8385 size 0 room) (zeros-weights 8385 8385 8385 (corner h l))

-- the same where the words are the first places of buffers of zeros too
pub first-zeros-pairs : {size : ℕ} {buffer table : List ℕ} → 8385 ≤ size → buffer ≡ replicate size 0
    → table ≡ weights_of (take 8385 buffer) (take 8385 (replicate 8385 0)) (take 8385 (replicate 8385 0)) → (h l : ℕ) → pairs table h l ≡ 0
first-zeros-pairs {size} {buffer} room zeros is =
    zeros-pairs room zeros refl (is ∙ ap (λ (words : List ℕ). weights_of (take 8385 buffer) words words) (take-replicate {X = ℕ} 8385 8385 0 (omega arith)))

module _ (g : Grid) where
  -- no fragment yet
  pub holds-none : (d : ℕ) (v : ℕ → ℕ → ℕ) → ((h l : ℕ) → v h l ≡ 0) → HoldsFragments g 0 d v
  unfolding most_kept
  holds-none d v zeros = record { holds = λ h l dh dl hh hl. zeros h l }

  module _ (k i d : ℕ) (v : ℕ → ℕ → ℕ) (k-in : k < g.m) (is : i ≡ g.m - 1 - k) (held : HoldsFragments g k d v) where
    opened : (h l : ℕ) → i ≡ g.m - suc k
        → with_fragment_in (λ s. can_join g s i) (state_reach_of g) (removal i) i (most_kept g k) h l ≡ most_kept g (suc k) h l
    unfolding most_kept
    opened h l e = rw e

    -- the places of the fragments from i on fit
    places-fit : g.m ≤ 128 → place i + last_sum place g.m k < top
    unfolding last_sum places_of
    places-fit small =
        let at' : i ≡ g.m - suc k = omega arith in
        let whole = last-first place g.m (suc k) (omega arith) in
        let low = places-top g.m everything small in
        let e = ap place at' in
        omega arith

    -- room for the next fragment
    pub holds-room : g.m ≤ 128 → (own : Rank) → own.high < 2 ^ 64 → own.low < 2 ^ 64 → value own ≡ removal i → FragmentRoom own d d (i + 1) v
    holds-room small own hh hl e =
        let others = last_sum place g.m k in
        let f = places-fit small in
        let parts = parts-small own hh hl e (one-removed (place i)) (below _ others f) in
        record {
          others = others;
          few = parts.0;
          fits = within others parts.1 f;
          small = λ s q lo hs dq hq. subst (AtMost 127 others) (sym (held.holds s q lo dq (omega arith) (omega arith))) (at_most-more (omega arith) (le_refl others) (kept_small g k s q));
        }
      where
        below : (p s : ℕ) {t : ℕ} → p + s < t → p < t
        below p s h = omega arith

        within : {c p : ℕ} (s : ℕ) {t : ℕ} → c ≤ p → p + s < t → c + s < t
        within s l h = omega arith

    -- one fragment more
    pub holds_more : (may : ℕ → Bool) (reaches : ℕ → ℕ) (own : ℕ) (w : ℕ → ℕ → ℕ) → ((s : ℕ) → d ≤ s → s < i + 1 → may s ≡ can_join g s i)
        → ((s : ℕ) → s < g.m + 1 → reaches s ≡ state_reach_of g s) → own ≡ removal i → Made (with_fragment_in may reaches own i v) w d (i + 1) → HoldsFragments g (k + 1) d w
    holds_more may reaches own w joins reach eo made = record { holds = holds }
      where
        step : (s : ℕ) → s ≤ i → furthest reaches s i ≡ furthest (state_reach_of g) s i
        step s l = ap₂ (λ (x y : ℕ). if x <? y then i + 1 else s) (reach s (omega arith)) (reach (i + 1) (omega arith))

        holds : (h l : ℕ) → d ≤ h → d ≤ l → h ≤ g.m - (k + 1) → l ≤ g.m - (k + 1) → w h l ≡ most_kept g (k + 1) h l
        holds h l dh dl hh hl =
            let hr = furthest-range reaches h i (omega arith) in
            let lr = furthest-range reaches l i (omega arith) in
            made.made h l dh dl (omega arith) (omega arith)
            ∙ keep_same (joins h dh (omega arith)) (joins l dl (omega arith)) eo
            (held.holds (furthest reaches h i) l (omega arith) dl (omega arith) (omega arith) ∙ ap (λ (x : ℕ). most_kept g k x l) (step h (omega arith)))
            (held.holds h (furthest reaches l i) dh (omega arith) (omega arith) (omega arith) ∙ ap (most_kept g k h) (step l (omega arith)))
            (held.holds h l dh dl (omega arith) (omega arith))
            ∙ opened h l (omega arith) ∙ rw (add-one k)
