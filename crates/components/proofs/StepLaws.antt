-- What the loops of `alone` and `relabel` come to, and each way through `join_pair`.
-- Assumes nothing.
use Rattle.std.specs.Prelude.{if◌then◌else◌}
use mathlib.Core.Path.{◌≡◌, refl, sym, ◌∙◌}
use mathlib.Core.Logic.{inl, inr}
use mathlib.Core.Bool.{Bool, true, false, not}
use mathlib.Core.List.{List}
use Prim.Native.Nat.{ℕ, ◌<◌, ◌≤◌, min, max}
use native.Mathlib.Decide.{dec_lt}
use native.Mathlib.Omega.{arith}
use borrow.Author.Tests.{not-true, not-false}
use mir.Val.{bool_byte}
use Rattle.below.specs.Below.{◌<?◌, ◌=?◌, nth}
use Rattle.below.proofs.BelowLaws.{if-true, if-false, =?-eq, =?-refl, same_test}
use Rattle.below.proofs.SearchLaws.{true-T, false-T}
use Rattle.conflicts.specs.Choice.{marked}
use Rattle.components.specs.Algorithm.Components.{side_turned, Joined, State, ByVerdict, Step}
use Rattle.components.proofs.SweepLaws.{Remade}
use Rattle.below.proofs.TestLaws.{if-eq, if-ne}
use Rattle.components.proofs.ComponentLaws.{start, clash, settled-apart, join}

-- ---- the loops

abbrev pub own_label_of : List ℕ → ℕ → ℕ
own_label_of kept k = if 0 <? nth kept k then k else 255

abbrev pub own_side_of : List ℕ → ℕ → ℕ
own_side_of kept k = if 0 <? nth kept k then 1 else 0

-- a byte of a test
pub byte-if : (b : Bool) → bool_byte b ≡ if b then 1 else 0
byte-if true = refl
byte-if false = refl

pub begun : (m : ℕ) → m ≤ 128 → (kept : List ℕ) {l₀ s₀ l s : List ℕ} (pair : ℕ → ℕ → Bool) → Remade (own_label_of kept) l₀ l m → Remade (own_side_of kept) s₀ s m
    → State m (marked kept) pair 0 (nth l) (nth s)
unfolding marked
begun m few kept pair a b =
    start m few (marked kept) pair
    (λ k hk kk. (a.done k hk ∙ if-true (0 <? nth kept k) k 255 kk, b.done k hk ∙ if-true (0 <? nth kept k) 1 0 kk))
    (λ k hk n. (a.done k hk ∙ if-false (0 <? nth kept k) k 255 n, b.done k hk ∙ if-false (0 <? nth kept k) 1 0 n))

abbrev pub new_label_of : ℕ → ℕ → List ℕ → ℕ → ℕ
new_label_of lo hi l k = if nth l k =? hi then lo else nth l k

abbrev pub new_side_of : ℕ → Bool → List ℕ → List ℕ → ℕ → ℕ
new_side_of hi turn l s k = if nth l k =? hi then side_turned turn (nth s k) else nth s k

pub joined : {m lo hi : ℕ} {turn : Bool} {l s l' s' : List ℕ} → Remade (new_label_of lo hi l) l l' m → Remade (new_side_of hi turn l s) s s' m
    → Joined m lo hi turn (nth l) (nth s) (nth l') (nth s')
joined a b = record {
  moved = λ k hk e. (a.done k hk ∙ if-eq _ _ e, b.done k hk ∙ if-eq _ _ e);
  left = λ k hk ne. (a.done k hk ∙ if-ne _ _ ne, b.done k hk ∙ if-ne _ _ ne);
}

-- ---- verdicts

pub says-yes : {A B : Type 0} → A → ByVerdict true A B
says-yes a = record { yes = λ e. a; no = λ e. absurd (false-T e tt) }

pub says-no : {A B : Type 0} → B → ByVerdict false A B
says-no b = record { yes = λ e. absurd (false-T (sym e) tt); no = λ e. b }

-- ---- a pair

=?-swap : (a b : ℕ) → (a =? b) ≡ (b =? a)
=?-swap a b = same_test (a =? b) (b =? a) (λ t. rw (=?-eq a b t) (=?-refl b)) (λ t. rw (=?-eq b a t) (=?-refl a))

module _ {m i j : ℕ} (few : m ≤ 128) (hij : i < j) (hj : j < m) {l s : ℕ → ℕ} (turn : Bool) (equal : turn ≡ (s i =? s j)) where
  pub step-up : {l' s' : ℕ → ℕ} → l i < l j → Joined m (l i) (l j) turn l s l' s' → Step m i j true l s l' s'
  step-up lower joins = record { on = λ kept pair links t st. says-yes (join m few kept pair links hij hj t st (inl (refl, refl)) lower equal joins) }

  pub step_down : {l' s' : ℕ → ℕ} → l j < l i → Joined m (l j) (l i) turn l s l' s' → Step m i j true l s l' s'
  step_down lower joins = record { on = λ kept pair links t st. says-yes (join m few kept pair links hij hj t st (inr (refl, refl)) lower (equal ∙ =?-swap (s i) (s j)) joins) }

  -- two components: that of the higher label is taken in
  pub step_joined : {lo hi : ℕ} {l' s' : ℕ → ℕ} → (l i ≡ l j → ⊥) → lo ≡ min (l i) (l j) → hi ≡ max (l i) (l j) → Joined m lo hi turn l s l' s' → Step m i j true l s l' s'
  step_joined {lo} {hi} ne el eh joins =
      elim (dec_lt (l i) (l j)) [
        | yes h ↦
            let a : lo ≡ l i = omega arith in
            let b : hi ≡ l j = omega arith in
            step-up h (rw (a, b) at joins)
        | no h ↦
            let u : l j < l i = omega arith in
            let a : lo ≡ l j = omega arith in
            let b : hi ≡ l i = omega arith in
            step_down u (rw (a, b) at joins)
      ]

  -- one component
  pub step_same : l i ≡ l j → Step m i j (not turn) l s l s
  step_same same = record {
    on = λ kept pair links t st.
        record {
          yes = λ e. settled-apart m few kept pair links hij hj t st same turn equal (not-true turn e);
          no = λ e. clash m few kept pair links hij hj t st same (=?-eq (s i) (s j) (true-T (sym equal ∙ not-false turn e)));
        };
  }
