-- A list that a loop fills from the front: below the counter it holds what f says. A list with a part put back.
-- Assumes nothing.
use mathlib.Core.Path.{◌≡◌, sym, ap, subst, ◌∙◌}
use mathlib.Core.List.{List}
use Prim.Native.Nat.{ℕ, ◌+◌, ◌-◌, ◌<◌, ◌≤◌}
use native.Mathlib.Omega.{arith}
use native.Mathlib.Decide.{dec_le}
use lib.ListN.{length, get_or, set, take, replicate, get_or-append, length-set, length-replicate, get_or-replicate}
use lib.Seq.{length-take-le, get_or-take, get_or-drop, get_or-append-add, get_or-set_same, get_or-set_other, ext_get_or}
use borrow.Author.Count.{below_more}
use borrow.Rule.Slice.PartMut.{put_mid, Post-is}
use Rattle.below.specs.Below.{tab}
use Rattle.below.proofs.BelowLaws.{length-tab, get_or-tab}

-- a list with a part in the places from a to e
module _ (a e : ℕ) (l part : List ℕ) (low : a ≤ e) (high : e ≤ length l) (long : length part ≡ e - a) where
  front : length (take a l) ≡ a
  front = length-take-le a l (omega arith)

  pub put-before : (j : ℕ) → j < a → get_or (put_mid a (e - a) l part) j 0 ≡ get_or l j 0
  put-before j h = let f = front in get_or-append (take a l) _ 0 j (omega arith) ∙ get_or-take a l j 0 h

  pub put-within : (j : ℕ) → a ≤ j → j < e → get_or (put_mid a (e - a) l part) j 0 ≡ get_or part (j - a) 0
  put-within j g h =
      let f = front in
      ap (λ (i : ℕ). get_or (put_mid a (e - a) l part) i 0) (omega arith) ∙ get_or-append-add (take a l) _ (j - a) 0 ∙ get_or-append part _ 0 (j - a) (omega arith)

  pub put-after : (j : ℕ) → e ≤ j → get_or (put_mid a (e - a) l part) j 0 ≡ get_or l j 0
  put-after j h =
      let f = front in
      ap (λ (i : ℕ). get_or (put_mid a (e - a) l part) i 0) (omega arith)
      ∙ get_or-append-add (take a l) _ (length part + (j - e)) 0
      ∙ get_or-append-add part _ (j - e) 0
      ∙ ap (λ (x : List ℕ). get_or x (j - e) 0) (Post-is a e l low)
      ∙ get_or-drop e l (j - e) 0
      ∙ ap (λ (i : ℕ). get_or l i 0) (omega arith)

pub record Filled (n : ℕ) (f : ℕ → ℕ) (k : ℕ) (l : List ℕ) : Type 0 where
  pub within : k ≤ n
  pub sized : length l ≡ n
  pub done : (j : ℕ) → j < k → get_or l j 0 ≡ f j

module _ (n : ℕ) (f : ℕ → ℕ) where
  pub filled_none : (l : List ℕ) → length l ≡ n → Filled n f 0 l
  filled_none l e = record { within = omega arith; sized = e; done = λ j h. absurd (omega arith) }

  pub filled_more : (k : ℕ) (l : List ℕ) (v : ℕ) → Filled n f k l → k < n → v ≡ f k → Filled n f (k + 1) (set l k v)
  filled_more k l v filled h e =
      let s = filled.sized in
      record {
        within = omega arith;
        sized = simp length-set s;
        done =
            below_more (λ (j : ℕ). get_or (set l k v) j 0 ≡ f j) k (λ j g. get_or-set_other l k j v 0 (λ q. omega arith) ∙ filled.done j g)
            (get_or-set_same l k v 0 (omega arith) ∙ e);
      }

  pub filled-four : (k next : ℕ) (l : List ℕ) (v w x y : ℕ) → Filled n f k l → next ≡ k + 4 → next ≤ n → v ≡ f k → w ≡ f (k + 1) → x ≡ f (k + 2) → y ≡ f (k + 3)
      → Filled n f next (set (set (set (set l k v) (k + 1) w) (k + 2) x) (k + 3) y)
  filled-four k next l v w x y filled e h ev ew ex ey =
      let at : (i j : ℕ) (l : List ℕ) → i ≡ j → Filled n f i l → Filled n f j l = λ i j l e. subst (λ (k : ℕ). Filled n f k l) e in
      let two = at _ (k + 2) _ (omega arith) (filled_more (k + 1) _ w (filled_more k l v filled (omega arith) ev) (omega arith) ew) in
      let three = at _ (k + 3) _ (omega arith) (filled_more (k + 2) _ x two (omega arith) ex) in
      at _ next _ (omega arith) (filled_more (k + 3) _ y three (omega arith) ey)

  -- a part that is written at once
  pub filled-part : (k w : ℕ) (l part : List ℕ) → Filled n f k l → k + w ≤ n → length (put_mid k (k + w - k) l part) ≡ length l → part ≡ tab w (λ c. f (k + c))
      → Filled n f (k + w) (put_mid k (k + w - k) l part)
  filled-part k w l part filled h same e =
      let s = filled.sized in
      let long : length part ≡ k + w - k = ap length e ∙ length-tab w _ ∙ omega arith in
      record {
        within = h;
        sized = same ∙ s;
        done = λ j g. elim (dec_le k j) [
          | yes a ↦
              put-within k (k + w) l part (omega arith) (omega arith) long j a g
              ∙ ap (λ (x : List ℕ). get_or x (j - k) 0) e
              ∙ get_or-tab w (λ c. f (k + c)) (j - k) 0 (omega arith)
              ∙ ap f (omega arith)
          | no b ↦ put-before k (k + w) l part (omega arith) (omega arith) long j (omega arith) ∙ filled.done j (omega arith)
        ];
      }

  pub filled-all : (k : ℕ) (l : List ℕ) → Filled n f k l → n ≤ k → l ≡ tab n f
  filled-all k l filled h =
      ext_get_or 0 l (tab n f) (filled.sized ∙ sym (length-tab n f))
      (λ j g. let s = filled.sized in let b : j < n = omega arith in filled.done j (omega arith) ∙ sym (get_or-tab n f j 0 b))

-- a table of one number
pub tab-const : (n a : ℕ) → tab n (λ i. a) ≡ replicate n a
tab-const n a =
    ext_get_or 0 _ (replicate n a) (length-tab n _ ∙ sym (length-replicate n a))
    (λ i h. let l : i < n = rw (length-tab n) at h in get_or-tab n (λ i. a) i 0 l ∙ sym (get_or-replicate n i a 0 l))
