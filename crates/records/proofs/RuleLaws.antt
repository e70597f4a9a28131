-- How a verdict goes through a list of rules.
-- Assumes nothing.
use Rattle.std.specs.Prelude.{if◌then◌else◌}
use mathlib.Core.Path.{◌≡◌, refl, sym, ap, subst, ◌∙◌}
use mathlib.Core.Bool.{Bool, true, false}
use mathlib.Core.List.{List, [], ◌∷◌, ◌++◌, Memᴰ}
use lib.Dec.{T}
use Prim.Native.Nat.{ℕ, zero, suc, ◌+◌, ◌-◌, ◌≤◌, ◌<◌}
use native.Mathlib.Nat.{sub-zero}
use native.Mathlib.Numerals.{add-one}
use native.Mathlib.Omega.{arith}
use Rattle.below.specs.Below.{isnt, Lowest, tab, tab_from, concat}
use Rattle.records.specs.Outcome.{Verdict, accepted, refused}
use Rattle.records.specs.Rules.{Rule, decide}
use Rattle.below.proofs.BelowLaws.{is_true, is_false}
use Rattle.below.proofs.MemberLaws.{concat-of, concat-at, tab-at}

-- ---- one rule

module _ (r : Rule) (rs : List Rule) (v : Verdict) where
  pub rule-broken : r.broken ≡ true → decide (r ∷ rs) v ≡ refused r.number r.place
  unfolding decide
  rule-broken e = rw e

  pub rule-kept : r.broken ≡ false → decide (r ∷ rs) v ≡ decide rs v
  unfolding decide
  rule-kept e = rw e

pub decide-none : (v : Verdict) → decide [] v ≡ v
unfolding decide
decide-none v = refl

-- ---- rules in stages

pub decide-append : (rs ss : List Rule) (v : Verdict) → decide (rs ++ ss) v ≡ decide rs (decide ss v)
unfolding decide
decide-append [] ss v = refl
decide-append (r ∷ rs) ss v = rw (decide-append rs ss v)

-- an acceptance comes through, whatever it would accept
pub decide-accepted : (rs : List Rule) (j k : ℕ) (v : Verdict) → decide rs (accepted j) ≡ accepted k → decide rs v ≡ v
unfolding decide
decide-accepted [] j k v e = refl
decide-accepted (r ∷ rs) j k v e = go (decide-accepted rs j k v) r.broken e
  where
    go : (decide rs (accepted j) ≡ accepted k → decide rs v ≡ v) → (b : Bool)
        → (if b then refused r.number r.place else decide rs (accepted j)) ≡ accepted k
        → (if b then refused r.number r.place else decide rs v) ≡ v
    go rest true e = absurd (let z : ◌≡◌ {A = ℕ} 0 1 = cc in omega arith)
    go rest false e = rest e

-- a refusal stays, whatever would follow
pub decide-refused : (rs : List Rule) (j k p : ℕ) (v : Verdict) → decide rs (accepted j) ≡ refused k p → decide rs v ≡ refused k p
unfolding decide
decide-refused [] j k p v e = absurd (let z : ◌≡◌ {A = ℕ} 0 1 = cc in omega arith)
decide-refused (r ∷ rs) j k p v e = go (decide-refused rs j k p v) r.broken e
  where
    go : (decide rs (accepted j) ≡ refused k p → decide rs v ≡ refused k p) → (b : Bool)
        → (if b then refused r.number r.place else decide rs (accepted j)) ≡ refused k p
        → (if b then refused r.number r.place else decide rs v) ≡ refused k p
    go rest true e = e
    go rest false e = rest e

module _ (rs : List Rule) (stages : List (List Rule)) (j : ℕ) (v : Verdict) where
  -- a stage that accepts leaves the verdict to those after it
  pub stage-kept : (k : ℕ) → decide rs (accepted j) ≡ accepted k → decide (concat (rs ∷ stages)) v ≡ decide (concat stages) v
  unfolding concat
  stage-kept k e = decide-append rs (concat stages) v ∙ decide-accepted rs j k (decide (concat stages) v) e

  -- a stage that refuses decides
  pub stage-refused : (k p : ℕ) → decide rs (accepted j) ≡ refused k p → decide (concat (rs ∷ stages)) v ≡ refused k p
  unfolding concat
  stage-refused k p e = decide-append rs (concat stages) v ∙ decide-refused rs j k p (decide (concat stages) v) e

-- the last stage decides alone
pub stage-last : (rs : List Rule) (v : Verdict) → decide (concat (rs ∷ [])) v ≡ decide rs v
unfolding concat decide
stage-last rs v = decide-append rs [] v

-- several stages at once
decide-stages : (ss ts : List (List Rule)) (v : Verdict) → decide (concat (ss ++ ts)) v ≡ decide (concat ss) (decide (concat ts) v)
unfolding concat decide
decide-stages [] ts v = refl
decide-stages (rs ∷ ss) ts v =
    decide-append rs (concat (ss ++ ts)) v ∙ ap (decide rs) (decide-stages ss ts v) ∙ sym (decide-append rs (concat ss) (decide (concat ts) v))

module _ (ss ts : List (List Rule)) (j : ℕ) (v : Verdict) where
  pub stages-kept : (k : ℕ) → decide (concat ss) (accepted j) ≡ accepted k → decide (concat (ss ++ ts)) v ≡ decide (concat ts) v
  stages-kept k e = decide-stages ss ts v ∙ decide-accepted (concat ss) j k _ e

  pub stages-refused : (k p : ℕ) → decide (concat ss) (accepted j) ≡ refused k p → decide (concat (ss ++ ts)) v ≡ refused k p
  stages-refused k p e = decide-stages ss ts v ∙ decide-refused (concat ss) j k p _ e

-- ---- an acceptance, rule by rule

-- rules that accept do so with the count that they were given
pub accepted-count : (rs : List Rule) (j k : ℕ) → decide rs (accepted j) ≡ accepted k → j ≡ k
accepted-count rs j k e = let f = decide-accepted rs j k (accepted j) e in cc

-- none of the rules is broken
abbrev pub NoneBroken : List Rule → Type 0
NoneBroken rs = (r : Rule) → Memᴰ r rs → T (isnt r.broken)

-- rules that accept have none broken
pub unbroken : (rs : List Rule) (j k : ℕ) → decide rs (accepted j) ≡ accepted k → NoneBroken rs
unfolding decide isnt
unbroken [] j k e r m = elim m [ ]
unbroken (s ∷ rs) j k e r m = go (unbroken rs j k) s.broken refl e m
  where
    go : (decide rs (accepted j) ≡ accepted k → NoneBroken rs) → (b : Bool) → s.broken ≡ b
        → (if b then refused s.number s.place else decide rs (accepted j)) ≡ accepted k → Memᴰ r (s ∷ rs) → T (isnt r.broken)
    go rest true is f n = absurd (let z : ◌≡◌ {A = ℕ} 0 1 = cc in omega arith)
    go rest false is f (Memᴰ.head p) = subst (λ (b : Bool). T (isnt b)) (sym (ap (λ (q : Rule). q.broken) p ∙ is)) tt
    go rest false is f (Memᴰ.tail n) = rest f r n

-- rules of which none is broken leave the verdict
pub all-unbroken : (rs : List Rule) (v : Verdict) → NoneBroken rs → decide rs v ≡ v
all-unbroken [] v f = decide-none v
all-unbroken (r ∷ rs) v f = rule-kept r rs v (sym (is_false _ (f r (Memᴰ.head refl)))) ∙ all-unbroken rs v (λ s m. f s (Memᴰ.tail m))

-- every stage of rules that accept accepts
pub accepted-stage : (stages : List (List Rule)) (j k : ℕ) → decide (concat stages) (accepted j) ≡ accepted k → (rs : List Rule) → Memᴰ rs stages → decide rs (accepted j) ≡ accepted j
accepted-stage stages j k e rs m = all-unbroken rs (accepted j) (λ r h. unbroken (concat stages) j k e r (concat-of h m))

-- rows of rules of which none is broken leave the verdict
pub rows-unbroken : (f : ℕ → List Rule) (m : ℕ) (v : Verdict) → ((i : ℕ) → i < m → NoneBroken (f i)) → decide (concat (tab m f)) v ≡ v
rows-unbroken f m v kept = all-unbroken _ v (λ r h.
    let a = concat-at (tab m f) h in
    let b = tab-at f m a.1 in
    kept b.0 b.1 r (subst (λ (rs : List Rule). Memᴰ r rs) b.2 a.2))

-- ---- one rule for each place

module _ (f : ℕ → Rule) (v : Verdict) where
  -- none is broken
  pub places-kept : (n : ℕ) → ((i : ℕ) → i < n → T (isnt (f i).broken)) → decide (tab n f) v ≡ v
  places-kept n kept = all-unbroken _ v (λ r h. let a = tab-at f n h in subst (λ (q : Rule). T (isnt q.broken)) (sym a.2) (kept a.0 a.1))

  first-broken : (n a k : ℕ) → k < n → ((i : ℕ) → i < k → T (isnt (f (a + i)).broken)) → T (f (a + k)).broken → decide (tab_from a n f) v ≡ refused (f (a + k)).number (f (a + k)).place
  unfolding tab_from
  first-broken zero a k lt kept broken = absurd (omega arith)
  first-broken (suc n) a zero lt kept broken =
      let q : a + 0 ≡ a = omega arith in
      subst (λ (x : ℕ). decide (f a ∷ tab_from (suc a) n f) v ≡ refused (f x).number (f x).place) (sym q)
      (rule-broken (f a) (tab_from (suc a) n f) v (sym (is_true _ (subst (λ (x : ℕ). T (f x).broken) q broken))))
  first-broken (suc n) a (suc k) lt kept broken =
      let next : (i : ℕ) → a + suc i ≡ suc a + i = λ i. omega arith in
      let q : a + 0 ≡ a = omega arith in
      rule-kept (f a) (tab_from (suc a) n f) v (sym (is_false _ (subst (λ (x : ℕ). T (isnt (f x).broken)) q (kept 0 (omega arith)))))
      ∙ subst (λ (x : ℕ). decide (tab_from (suc a) n f) v ≡ refused (f x).number (f x).place) (sym (next k))
      (first-broken n (suc a) k (omega arith) (λ i l. subst (λ (x : ℕ). T (isnt (f x).broken)) (next i) (kept (suc i) (omega arith))) (subst (λ (x : ℕ). T (f x).broken) (next k) broken))

  -- the lowest that is broken decides
  pub places-refused : (n k : ℕ) → Lowest n (λ i. (f i).broken) k → decide (tab n f) v ≡ refused (f k).number (f k).place
  unfolding tab
  places-refused n k w =
      let zeroth : (i : ℕ) → i ≡ 0 + i = λ i. omega arith in
      subst (λ (x : ℕ). decide (tab_from 0 n f) v ≡ refused (f x).number (f x).place) (sym (zeroth k))
      (first-broken n 0 k w.inside (λ i l. subst (λ (x : ℕ). T (isnt (f x).broken)) (zeroth i) (w.before i l)) (subst (λ (x : ℕ). T (f x).broken) (zeroth k) w.holds))

-- rows that each decide as one rule does
rows_as : (f : ℕ → List Rule) (r : ℕ → Rule) (v : Verdict) (m a : ℕ) → ((i : ℕ) → i < a + m → (w : Verdict) → decide (f i) w ≡ decide (r i ∷ []) w)
    → decide (concat (tab_from a m f)) v ≡ decide (tab_from a m r) v
unfolding tab_from concat
rows_as f r v zero a each = refl
rows_as f r v (suc m) a each =
    decide-append (f a) _ v
    ∙ ap (decide (f a)) (rows_as f r v m (suc a) (λ i h. each i (omega arith)))
    ∙ each a (omega arith) _
    ∙ sym (decide-append (r a ∷ []) (tab_from (suc a) m r) v)

pub rows-single : (f : ℕ → List Rule) (r : ℕ → Rule) (m : ℕ) (v : Verdict) → ((i : ℕ) → i < m → (w : Verdict) → decide (f i) w ≡ decide (r i ∷ []) w)
    → decide (concat (tab m f)) v ≡ decide (tab m r) v
unfolding tab
rows-single f r m v each = rows_as f r v m 0 (λ i h. each i (omega arith))

-- ---- rules row by row, as a loop that counts from i to m tests them

module _ (f : ℕ → List Rule) (v : Verdict) where
  -- the rules of the rows from i on
  unfoldable pub from_row : ℕ → ℕ → Verdict
  from_row i m = decide (concat (tab_from i (m - i) f)) v

  pub rows-begin : (m : ℕ) → decide (concat (tab m f)) v ≡ from_row 0 m
  unfolding from_row tab
  rows-begin m = rw (sub-zero m)

  pub rows_end : (i m : ℕ) → m ≤ i → from_row i m ≡ v
  unfolding from_row tab_from concat decide
  rows_end i m h =
      let e : m - i ≡ 0 = omega arith in
      rw e

  row_step : (i m : ℕ) → i < m → from_row i m ≡ decide (f i) (from_row (i + 1) m)
  unfolding from_row tab_from concat
  row_step i m h =
      let e : m - i ≡ suc (m - (i + 1)) = omega arith in
      rw (e, add-one, decide-append (f i) (concat (tab_from (suc i) (m - suc i) f)) v)

  pub row_kept : (i m j k : ℕ) → i < m → decide (f i) (accepted j) ≡ accepted k → from_row i m ≡ from_row (i + 1) m
  row_kept i m j k h e = row_step i m h ∙ decide-accepted (f i) j k (from_row (i + 1) m) e

  pub row-broken : (i m j k p : ℕ) → i < m → decide (f i) (accepted j) ≡ refused k p → from_row i m ≡ refused k p
  row-broken i m j k p h e = row_step i m h ∙ decide-refused (f i) j k p (from_row (i + 1) m) e
