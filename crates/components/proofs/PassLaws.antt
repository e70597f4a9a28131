-- Fragments that are related by their lines, and each way past their pairs and rows.
-- Assumes nothing.
use mathlib.Core.Path.{◌≡◌, sym, ap₂, subst, ◌∙◌}
use mathlib.Core.Bool.{Bool, true, false}
use mathlib.Core.List.{List}
use Prim.Native.Nat.{ℕ, ◌+◌, ◌*◌, ◌<◌, ◌≤◌}
use native.Mathlib.Omega.{arith}
use lib.Dec.{T}
use Rattle.below.specs.Below.{nth}
use Rattle.below.proofs.BelowLaws.{both, left-of, right_of, <?-lt, lt-<?}
use Rattle.below.proofs.SearchLaws.{true-T, false-T}
use Rattle.conflicts.specs.Choice.{marked}
use Rattle.places.specs.declared.places.Places.{Places}
use Rattle.places.specs.declared.lines.Line.{Line}
use Rattle.places.specs.Algorithm.Places.{both_places, occupied, conflict_kept_in}
use Rattle.masks.specs.Algorithm.Masks.{line_at}
use Rattle.places.proofs.PlaceLaws.{conflict-comm}
use Rattle.components.specs.Algorithm.Components.{related, Links, State, NoSides, ByVerdict, Step}
use Rattle.components.proofs.ComponentLaws.{skip}

module _ (lines : List Line) (keep : Places) (frags : List ℕ) where
  related-at : (i j : ℕ) → T (related lines keep frags i j) → T (marked frags i) × T (marked frags j) × T (conflict_kept_in keep (line_at lines i) (line_at lines j))
  unfolding related
  related-at i j t = (left-of _ _ (left-of _ _ t), right_of _ _ (left-of _ _ t), right_of _ _ t)

  related-of : (i j : ℕ) → T (marked frags i) → T (marked frags j) → T (conflict_kept_in keep (line_at lines i) (line_at lines j)) → T (related lines keep frags i j)
  unfolding related
  related-of i j ki kj t = both _ _ (both _ _ ki kj) t

  related-back : (i j : ℕ) → T (related lines keep frags i j) → T (related lines keep frags j i)
  unfolding conflict_kept_in
  related-back i j t =
      let r = related-at i j t in
      related-of j i r.1 r.0 (subst (λ (p : Places). T (occupied (both_places keep p))) (conflict-comm (line_at lines i) (line_at lines j)) r.2)

  pub related-links : (m : ℕ) → Links m (marked frags) (related lines keep frags)
  related-links m = record { back = λ a b ha hb t. related-back a b t; ends = λ a b ha hb t. (related-at a b t).0 }

  not-marked : (i : ℕ) → nth frags i ≡ 0 → T (marked frags i) → ⊥
  unfolding marked
  not-marked i e t = let h = <?-lt 0 (nth frags i) t in omega arith

  pub is-marked : (i : ℕ) → (nth frags i ≡ 0 → ⊥) → T (marked frags i)
  unfolding marked
  is-marked i f = lt-<? 0 (nth frags i) (omega arith)

  -- the pairs of m fragments before place k are passed
  abbrev Before : ℕ → ℕ → (ℕ → ℕ) → (ℕ → ℕ) → Type 0
  Before m k l s = State m (marked frags) (related lines keep frags) k l s

  module _ {m : ℕ} (few : m ≤ 128) {l s : ℕ → ℕ} where
    -- a row that is removed
    pub row-removed : (i : ℕ) → nth frags i ≡ 0 → Before m (i * 128) l s → Before m ((i + 1) * 128) l s
    row-removed i e st =
        skip m few (marked frags) (related lines keep frags) (i * 128) ((i + 1) * 128) (omega arith)
        (λ a b hab hb u w t. let ea : a ≡ i = omega arith in not-marked i e (rw ea at (related-at a b t).0)) st

    -- a row begins after its own fragment, and ends at m
    pub row-begin : (i : ℕ) → Before m (i * 128) l s → Before m (i * 128 + (i + 1)) l s
    row-begin i st = skip m few (marked frags) (related lines keep frags) (i * 128) (i * 128 + (i + 1)) (omega arith) (λ a b hab hb u w t. omega arith) st

    pub row-end : (i j : ℕ) → j ≤ m → m ≤ j → Before m (i * 128 + j) l s → Before m ((i + 1) * 128) l s
    row-end i j le ge st = skip m few (marked frags) (related lines keep frags) (i * 128 + j) ((i + 1) * 128) (omega arith) (λ a b hab hb u w t. omega arith) st

    -- all rows
    pub rows_end : (i : ℕ) → i ≤ m → m ≤ i → Before m (i * 128) l s → Before m 16384 l s
    rows_end i le ge st = skip m few (marked frags) (related lines keep frags) (i * 128) 16384 (omega arith) (λ a b hab hb u w t. omega arith) st

    module _ (i j : ℕ) (hj : j < m) (st : Before m (i * 128 + j) l s) where
      not-here : (T (related lines keep frags i j) → ⊥) → Before m (i * 128 + (j + 1)) l s
      not-here f =
          skip m few (marked frags) (related lines keep frags) (i * 128 + j) (i * 128 + (j + 1)) (omega arith)
          (λ a b hab hb u w t. let ea : a ≡ i = omega arith in let eb : b ≡ j = omega arith in f (rw (ea, eb) at t)) st

      -- the other is removed
      pub pair-removed : nth frags j ≡ 0 → Before m (i * 128 + (j + 1)) l s
      pair-removed e = not-here (λ t. not-marked j e (related-at i j t).1)

      module _ {first second : Line} {b : Bool} (own : first ≡ line_at lines i) (others : second ≡ line_at lines j) (test : b ≡ conflict_kept_in keep first second) where
        same : b ≡ conflict_kept_in keep (line_at lines i) (line_at lines j)
        same = test ∙ ap₂ (conflict_kept_in keep) own others

        -- they do not conflict
        pub pair-agrees : b ≡ false → Before m (i * 128 + (j + 1)) l s
        pair-agrees e = not-here (λ t. false-T (sym same ∙ e) (related-at i j t).2)

        -- they do
        pub pair-joined : b ≡ true → T (marked frags i) → (nth frags j ≡ 0 → ⊥) → {ok : Bool} {l' s' : ℕ → ℕ} → Step m i j ok l s l' s'
            → ByVerdict ok (Before m (i * 128 + (j + 1)) l' s') (NoSides m (marked frags) (related lines keep frags))
        pair-joined e ki kj step = step.on (marked frags) (related lines keep frags) (related-links m) (related-of i j ki (is-marked j kj) (true-T (sym same ∙ e))) st
