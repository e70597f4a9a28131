-- The first of the keep lists that remove least, over any test of keep lists that speaks of the set removed: one law for S and F.
-- Assumes nothing.
use mathlib.Core.Path.{◌≡◌, refl, sym, ap, subst, ◌∙◌}
use mathlib.Core.Logic.{◌⊎◌, inl, inr}
use mathlib.Core.Bool.{Bool, true, false}
use mathlib.Core.List.Memᴰ
use mathlib.Core.List.{List, [], ◌∷◌, Memᴰ}
use Prim.Native.Nat.{ℕ, zero, suc, ◌≤◌, ◌<◌}
use native.Mathlib.Nat.{suc-ne-zero}
use native.Mathlib.Omega.{arith}
use lib.Dec.{T, lit≤}
use lib.ListN.{length, get_or, replicate, length-replicate, get_or-replicate}
use borrow.Author.Tests.{ne_eqb, lt-ltb}
use Rattle.below.specs.Below.{bit, count_below, tab, ◌=?◌, ◌<?◌, isnt}
use Rattle.below.proofs.BelowLaws.{count-ext, length-tab, get_or-tab}
use Rattle.conflicts.specs.Choice.{choices, passing, first_least, marked, zeros, keep_lists}
use Rattle.conflicts.specs.Minimality.{everything, Earlier, Alike, Fewest, FirstSet}
use Rattle.conflicts.proofs.ChoiceLaws.{every-cons, passing-of, passing-at, first_least-is, first_least-in, choices-of, choices-at, picks_of, picks_at, picks-length}
use Rattle.conflicts.proofs.OrderLaws.{Precedes, tied-before, passing-order, sooner-earlier, keeps-rise}
use Rattle.conflicts.proofs.SideLaws.{alike_same}

-- a mark is 0 or says kept
pub isnt-zero : (x : ℕ) → isnt (x =? 0) ≡ (0 <? x)
unfolding isnt ◌=?◌ ◌<?◌
isnt-zero zero = refl
isnt-zero (suc x) = rw (ne_eqb (suc x) 0 (suc-ne-zero x), lt-ltb 0 (suc x) (omega arith))

-- the two options of each place
keep_options : ℕ → List (List ℕ)
keep_options size = replicate size (1 ∷ 0 ∷ [])

options-length : (size : ℕ) → length (keep_options size) ≡ size
unfolding keep_options
options-length size = length-replicate {A = List ℕ} size (1 ∷ 0 ∷ [])

option-at : (size i : ℕ) → i < length (keep_options size) → get_or (keep_options size) i [] ≡ 1 ∷ 0 ∷ []
unfolding keep_options
option-at size i h = get_or-replicate {A = List ℕ} size i (1 ∷ 0 ∷ []) [] (omega (arith, options-length size))

-- ---- the keep list of a set

-- the keep marks of all that is not in a set
unfoldable pub outside : ℕ → (ℕ → Bool) → List ℕ
outside size removed = tab size (λ i. bit (isnt (removed i)))

module _ (size : ℕ) (removed : ℕ → Bool) where
  pub outside-at : (i : ℕ) → i < size → get_or (outside size removed) i 0 ≡ bit (isnt (removed i))
  unfolding outside
  outside-at i h = get_or-tab size (λ i. bit (isnt (removed i))) i 0 h

  pub outside-length : length (outside size removed) ≡ size
  unfolding outside
  outside-length = length-tab size (λ i. bit (isnt (removed i)))

  pub outside-gone : (i : ℕ) → i < size → (get_or (outside size removed) i 0 =? 0) ≡ removed i
  unfolding isnt ◌=?◌
  outside-gone i h = rw (outside-at i h) (gone (removed i))
    where
      gone : (b : Bool) → (bit (isnt b) =? 0) ≡ b
      gone true = refl
      gone false = refl

  pub outside-marked : (i : ℕ) → i < size → marked (outside size removed) i ≡ isnt (removed i)
  unfolding marked ◌<?◌ isnt
  outside-marked i h = rw (outside-at i h) (on (removed i))
    where
      on : (b : Bool) → (0 <? bit (isnt b)) ≡ isnt b
      on true = refl
      on false = refl

  pub outside-zeros : zeros (outside size removed) ≡ count_below size removed
  unfolding zeros
  outside-zeros = rw outside-length (count-ext size _ removed outside-gone)

  pub outside-in : Memᴰ (outside size removed) (keep_lists size)
  unfolding keep_lists keep_options isnt
  outside-in =
      choices-of (picks_of 0 (outside size removed) (keep_options size) (outside-length ∙ sym (options-length size)) λ i l.
      rw (outside-at i (omega (arith, options-length size)), option-at size i l) (one (removed i)))
    where
      one : (b : Bool) → Memᴰ (bit (isnt b)) (1 ∷ 0 ∷ [])
      one true = Memᴰ.tail (Memᴰ.head refl)
      one false = Memᴰ.head refl

-- ---- the members of keep_lists

pub keeps-length : (size : ℕ) {marks : List ℕ} → Memᴰ marks (keep_lists size) → length marks ≡ size
unfolding keep_lists keep_options
keeps-length size m = picks-length (choices-at (keep_options size) m) ∙ options-length size

-- each mark is 0 or 1
pub keeps-at : (size : ℕ) {marks : List ℕ} → Memᴰ marks (keep_lists size) → (i : ℕ) → i < size → get_or marks i 0 ≤ 1
unfolding keep_lists keep_options
keeps-at size {marks} m i h =
    let l : i < length (keep_options size) = omega (arith, options-length size) in
    every-cons (λ x. x ≤ 1) (lit≤ tt) (every-cons (λ x. x ≤ 1) (lit≤ tt) (λ y n. absurd (Memᴰ.not-nil n))) (get_or marks i 0)
    (subst (λ (o : List ℕ). Memᴰ (get_or marks i 0) o) (option-at size i l) (picks_at 0 (choices-at (keep_options size) m) i l))

module _ (size : ℕ) (free : List ℕ → Bool) (Works : (ℕ → Bool) → Type 0)
    (same : (a b : ℕ → Bool) → ((i : ℕ) → i < size → a i ≡ b i) → Works a → Works b)
    (of : (removed : ℕ → Bool) → Works removed → T (free (outside size removed)))
    (at : (marks : List ℕ) → length marks ≡ size → T (free marks) → Works (λ i. get_or marks i 0 =? 0))
    (all : Works everything) where
  abbrev least : List ℕ
  least = first_least zeros (passing free (keep_lists size)) []

  candidate : (removed : ℕ → Bool) → Works removed → Memᴰ (outside size removed) (passing free (keep_lists size))
  candidate removed w = passing-of free (outside-in size removed) (of removed w)

  least-passes : Memᴰ least (keep_lists size) × T (free least)
  least-passes = passing-at free (keep_lists size) least (first_least-in zeros (passing free (keep_lists size)) [] (candidate everything all))

  pub least-in : Memᴰ least (keep_lists size)
  least-in = least-passes.0

  pub least-free : T (free least)
  least-free = least-passes.1

  -- the set removed, by any name for it
  module _ (this : ℕ → Bool) (is : (i : ℕ) → i < size → (get_or least i 0 =? 0) ≡ this i) where
    works : Works this
    works = same _ this is (at least (keeps-length size least-in) least-free)

    count : count_below size this ≡ zeros least
    unfolding zeros
    count = sym (rw (keeps-length size least-in) (count-ext size _ this is))

    -- no set that works has fewer members
    pub least-fewest : Fewest Works (count_below size) this (zeros least)
    least-fewest = record {
      works = works;
      count = count;
      bound = λ other w.
          subst (λ (k : ℕ). zeros least ≤ k) (outside-zeros size other) ((first_least-is zeros (passing free (keep_lists size)) [] (candidate other w)).least _ (candidate other w));
    }

    -- and it is the first of those that have as many
    pub least_first : FirstSet Works size this (zeros least)
    unfolding keep_lists keep_options
    least_first = record { fits = (works, count); first = λ other w. go other (tied-before zeros (passing free (keep_lists size)) [] (candidate other w.0) (outside-zeros size other ∙ w.1)) }
      where
        digit : ℕ → ℕ
        digit x = bit (x =? 0)

        go : (other : ℕ → Bool) → (outside size other ≡ least) ⊎ Precedes least (outside size other) (passing free (choices (keep_options size)))
            → Alike size (λ i. bit (this i)) (λ i. bit (other i)) ⊎ Earlier size (λ i. bit (this i)) (λ i. bit (other i))
        go other (inl e) = inl (record { same = λ i h. ap bit (sym (is i h)) ∙ ap (λ (l : List ℕ). digit (get_or l i 0)) (sym e) ∙ ap bit (outside-gone size other i h) })
        go other (inr s) =
            alike_same (λ i h. ap bit (is i h)) (λ i h. ap bit (outside-gone size other i h))
            (inr (subst (λ (k : ℕ). Earlier k (λ i. digit (get_or least i 0)) (λ i. digit (get_or (outside size other) i 0))) (options-length size)
            (sooner-earlier digit (λ i h x y p. keeps-rise x y (subst (λ (o : List ℕ). Precedes x y o) (option-at size i h) p))
            (passing-order free (keep_options size) least (outside size other) s))))
