-- Rules 9 and 13: what they look at, and that records that keep them rise.
-- Assumes nothing.
use mathlib.Core.Path.{◌≡◌, refl, sym, ap, ap₂, subst, ◌∙◌}
use mathlib.Core.Logic.{◌⊎◌, inl, inr}
use mathlib.Core.Bool.{Bool}
use mathlib.Core.List.Memᴰ
use mathlib.Core.List.{[], ◌∷◌}
use Prim.Native.Nat.{ℕ, zero, suc, ◌-◌, ◌≤◌, ◌<◌}
use native.Mathlib.Decide.{ℕ_discrete, dec_le}
use native.Mathlib.Omega.{arith}
use lib.Dec.{T}
use Rattle.below.specs.Below.{◌=?◌, ◌<?◌, ◌and◌}
use Rattle.below.proofs.BelowLaws.{any-ext, both, or_left, or_right, lt-<?, eq-=?, isnt-=?, none-at, T-isnt}
use Rattle.records.specs.Rules.{rule, tag_twice, precedes, is_out_of_order, earlier_rules}
use Rattle.records.proofs.RuleLaws.{NoneBroken}

-- the two look at the starts and tags up to record i alone
pub earlier-same : {start start' tag tag' : ℕ → ℕ} (i : ℕ) → ((h : ℕ) → h ≤ i → start h ≡ start' h) → ((h : ℕ) → h ≤ i → tag h ≡ tag' h)
    → earlier_rules start tag i ≡ earlier_rules start' tag' i
unfolding earlier_rules tag_twice is_out_of_order
earlier-same {start} {start'} {tag} {tag'} i starts tags =
    ap₂ (λ (a b : Bool). rule 9 i a ∷ rule 13 i b ∷ [])
    (any-ext i _ _ (λ h l. ap₂ ◌=?◌ (tags h (omega arith)) (tags i (omega arith))))
    (ap (λ b. 0 <? i and b) (rw (starts i (omega arith), tags i (omega arith), starts (i - 1) (omega arith), tags (i - 1) (omega arith)) refl))

-- by start, and at one start by tag
abbrev Lower : ℕ → ℕ → ℕ → ℕ → Type 0
Lower s t s' t' = (s < s') ⊎ ((s ≡ s') × (t < t'))

of-lower : (s t s' t' : ℕ) → Lower s t s' t' → T (precedes s t s' t')
unfolding precedes
of-lower s t s' t' (inl l) = or_left _ _ (lt-<? s s' l)
of-lower s t s' t' (inr e) = or_right (s <? s') _ (both _ _ (eq-=? s s' e.0) (lt-<? t t' e.1))

lower-more : {s t s' t' s'' t'' : ℕ} → Lower s t s' t' → Lower s' t' s'' t'' → Lower s t s'' t''
lower-more (inl l) (inl k) = inl (omega arith)
lower-more (inl l) (inr k) = inl (let e = k.0 in omega arith)
lower-more (inr l) (inl k) = inl (let e = l.0 in omega arith)
lower-more (inr l) (inr k) = inr (l.0 ∙ k.0, let a = l.1 in let b = k.1 in omega arith)

-- records that keep 9 and 13 rise
module _ (m : ℕ) (start tag : ℕ → ℕ) (kept : (i : ℕ) → i < m → NoneBroken (earlier_rules start tag i)) where
  next-lower : (i : ℕ) → suc i < m → Lower (start i) (tag i) (start (suc i)) (tag (suc i))
  unfolding earlier_rules tag_twice is_out_of_order
  next-lower i h =
      let is : suc i - 1 ≡ i = omega arith in
      let after : T (precedes (start (suc i)) (tag (suc i)) (start i) (tag i)) → ⊥ = λ t.
      T-isnt _ (kept (suc i) h _ (Memᴰ.tail (Memᴰ.head refl))) (both _ _ (lt-<? 0 (suc i) (omega arith)) (rw is t)) in
      let apart : tag i ≡ tag (suc i) → ⊥ = isnt-=? _ _ (none-at (suc i) (λ j. tag j =? tag (suc i)) (kept (suc i) h _ (Memᴰ.head refl)) i (omega arith)) in
      elim (ℕ_discrete (start i) (start (suc i))) [
        | yes e ↦ inr (
          e,
          elim (dec_le (tag (suc i)) (tag i)) [
            | yes l ↦ absurd (after (of-lower _ _ _ _ (inr (sym e, let a : tag (suc i) ≡ tag i → ⊥ = λ q. apart (sym q) in omega arith))))
            | no l ↦ omega arith
          ],
        )
        | no ne ↦ inl (elim (dec_le (start (suc i)) (start i)) [
          | yes l ↦ absurd (after (of-lower _ _ _ _ (inl (let a : start (suc i) ≡ start i → ⊥ = λ q. ne (sym q) in omega arith))))
          | no l ↦ omega arith
        ])
      ]

  rising : (p q : ℕ) → p < q → q < m → Lower (start p) (tag p) (start q) (tag q)
  rising p zero pq qm = absurd (omega arith)
  rising p (suc q) pq qm = elim (ℕ_discrete p q) [
    | yes e ↦ subst (λ (x : ℕ). Lower (start x) (tag x) (start (suc q)) (tag (suc q))) (sym e) (next-lower q qm)
    | no ne ↦ lower-more (rising p q (omega arith) (omega arith)) (next-lower q qm)
  ]

  -- each comes before every later one
  pub records-rise : (p q : ℕ) → p < q → q < m → T (precedes (start p) (tag p) (start q) (tag q))
  records-rise p q pq qm = of-lower _ _ _ _ (rising p q pq qm)

  -- and so their starts do not fall
  pub starts-rise : (p q : ℕ) → p < q → q < m → start p ≤ start q
  starts-rise p q pq qm = elim (rising p q pq qm) [ inl l ↦ omega arith | inr e ↦ let s = e.0 in omega arith ]
