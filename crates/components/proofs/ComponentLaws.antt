-- What a pass over the pairs keeps: the start, places without a pair, a pair that is apart, a pair that joins two components; and a pair inside a side.
-- Assumes nothing.
use Rattle.std.specs.Prelude.{if◌then◌else◌}
use mathlib.Core.Path.{◌≡◌, refl, sym, ap, ◌∙◌}
use mathlib.Core.Logic.{◌⊎◌, inl, inr}
use mathlib.Core.Bool.{Bool, true, false}
use mathlib.Core.List.{List}
use Prim.Native.Nat.{ℕ, ◌+◌, ◌*◌, ◌<◌, ◌≤◌}
use native.Mathlib.Omega.{arith}
use native.Mathlib.Nat.{not-suc-le-zero}
use native.Mathlib.Decide.{ℕ_discrete, dec_lt}
use lib.Dec.{T}
use lib.ListN.{length}
use lib.Seq.{ext_get_or}
use Rattle.below.specs.Below.{isnt, ◌=?◌, tab, nth}
use Rattle.below.proofs.BelowLaws.{decided, if-true, if-false, =?-eq, length-tab, get_or-tab}
use Rattle.below.proofs.SearchLaws.{=?-true, true-T, false-T}
use Rattle.conflicts.specs.Choice.{marked}
use Rattle.conflicts.specs.Blocks.{Chain, alone, onward, lowest}
use Rattle.conflicts.proofs.ReachLaws.{lowest-least, lowest-inside, lowest-chain}
use Rattle.components.specs.Algorithm.Components.{lowests, Links, Splits, Tied, State, NoSides, side_turned, Joined}

-- ---- sides 1 and 2

abbrev Two : ℕ → Type 0
Two s = (s ≡ 1) ⊎ (s ≡ 2)

-- whether sides are turned over: where a pair would otherwise be on one side
abbrev Turns : Bool → ℕ → ℕ → Type 0
Turns turn x y = ((turn ≡ true) × (x ≡ y)) ⊎ ((turn ≡ false) × (x + y ≡ 3))

turns-of : (turn : Bool) {x y : ℕ} → turn ≡ (x =? y) → Two x → Two y → Turns turn x y
turns-of true {x} {y} e h k = inl (refl, =?-eq x y (true-T (sym e)))
turns-of false {x} {y} e h k = inr (refl, other h k)
  where
    differ : x ≡ y → ⊥
    differ d = false-T (sym e) (true-T (=?-true x y d))

    other : Two x → Two y → x + y ≡ 3
    other (inl a) (inl b) = absurd (differ (omega arith))
    other (inl a) (inr b) = omega arith
    other (inr a) (inl b) = omega arith
    other (inr a) (inr b) = absurd (differ (omega arith))

-- what turning does to a side
turn-cases : (turn : Bool) {s s' : ℕ} → s' ≡ side_turned turn s → Two s → ((turn ≡ true) × (s' + s ≡ 3)) ⊎ ((turn ≡ false) × (s' ≡ s))
turn-cases true e (inl h) = inl (refl, omega arith)
turn-cases true e (inr h) = inl (refl, omega arith)
turn-cases false e h = inr (refl, e)

not-both : {b : Bool} → b ≡ true → b ≡ false → ⊥
not-both e f = false-T f (true-T e)

turned_two : (turn : Bool) {s s' : ℕ} → s' ≡ side_turned turn s → Two s → Two s'
turned_two turn {s} {s'} e h = go (turn-cases turn e h) h
  where
    go : ((turn ≡ true) × (s' + s ≡ 3)) ⊎ ((turn ≡ false) × (s' ≡ s)) → Two s → Two s'
    go (inl t) (inl k) = inr (omega arith)
    go (inl t) (inr k) = inl (omega arith)
    go (inr t) (inl k) = inl (omega arith)
    go (inr t) (inr k) = inr (omega arith)

-- two labels that two members tie together
label-tie : {turn : Bool} {sp sq xp xq lo hi : ℕ} → Turns turn sp sq → Tied sp xp lo → Tied sq xq hi → xp + xq ≡ 3
    → ((turn ≡ true) × (hi + lo ≡ 3)) ⊎ ((turn ≡ false) × (hi ≡ lo))
label-tie (inl t) (inl a) (inl b) e = inl (t.0, omega arith)
label-tie (inl t) (inl a) (inr b) e = absurd (omega arith)
label-tie (inl t) (inr a) (inl b) e = absurd (omega arith)
label-tie (inl t) (inr a) (inr b) e = inl (t.0, omega arith)
label-tie (inr t) (inl a) (inl b) e = absurd (omega arith)
label-tie (inr t) (inl a) (inr b) e = inr (t.0, omega arith)
label-tie (inr t) (inr a) (inl b) e = inr (t.0, omega arith)
label-tie (inr t) (inr a) (inr b) e = absurd (omega arith)

tied-two : {s x y : ℕ} → Tied s x y → Two s
tied-two (inl t) = inl t.0
tied-two (inr t) = inr t.0

-- a member of the component that is taken in
moved-tie : {turn : Bool} {s s' x hi lo : ℕ} → Tied s x hi → ((turn ≡ true) × (hi + lo ≡ 3)) ⊎ ((turn ≡ false) × (hi ≡ lo)) → s' ≡ side_turned turn s → Tied s' x lo
moved-tie {turn} {s} {s'} {x} {hi} {lo} a t e = go a t (turn-cases turn e (tied-two a))
  where
    go : Tied s x hi → ((turn ≡ true) × (hi + lo ≡ 3)) ⊎ ((turn ≡ false) × (hi ≡ lo)) → ((turn ≡ true) × (s' + s ≡ 3)) ⊎ ((turn ≡ false) × (s' ≡ s)) → Tied s' x lo
    go (inl a) (inl t) (inl u) = inr (omega arith, omega arith)
    go (inr a) (inl t) (inl u) = inl (omega arith, omega arith)
    go (inl a) (inr t) (inr u) = inl (omega arith, omega arith)
    go (inr a) (inr t) (inr u) = inr (omega arith, omega arith)
    go a (inl t) (inr u) = absurd (not-both t.0 u.0)
    go a (inr t) (inl u) = absurd (not-both u.0 t.0)

-- two that are turned over together stay apart
turned_apart : (turn : Bool) {a b a' b' : ℕ} → Two a → Two b → a' ≡ side_turned turn a → b' ≡ side_turned turn b → a + b ≡ 3 → a' + b' ≡ 3
turned_apart turn {a} {b} {a'} {b'} h k d e f = go (turn-cases turn d h) (turn-cases turn e k)
  where
    go : ((turn ≡ true) × (a' + a ≡ 3)) ⊎ ((turn ≡ false) × (a' ≡ a)) → ((turn ≡ true) × (b' + b ≡ 3)) ⊎ ((turn ≡ false) × (b' ≡ b)) → a' + b' ≡ 3
    go (inl t) (inl u) = omega arith
    go (inr t) (inr u) = omega arith
    go (inl t) (inr u) = absurd (not-both t.0 u.0)
    go (inr t) (inl u) = absurd (not-both u.0 t.0)

-- the pair that joins is apart afterwards
joined-apart : {turn : Bool} {p q q' : ℕ} → Turns turn p q → Two q → q' ≡ side_turned turn q → p + q' ≡ 3
joined-apart {turn} {p} {q} {q'} t h e = go t (turn-cases turn e h)
  where
    go : Turns turn p q → ((turn ≡ true) × (q' + q ≡ 3)) ⊎ ((turn ≡ false) × (q' ≡ q)) → p + q' ≡ 3
    go (inl t) (inl u) = omega arith
    go (inr t) (inr u) = omega arith
    go (inl t) (inr u) = absurd (not-both t.0 u.0)
    go (inr t) (inl u) = absurd (not-both u.0 t.0)

-- on one side now, and so in every lawful list
together-tie : {sp sq xp xq y : ℕ} → sp ≡ sq → Tied sp xp y → Tied sq xq y → xp + xq ≡ 3 → ⊥
together-tie e (inl a) (inl b) d = omega arith
together-tie e (inl a) (inr b) d = omega arith
together-tie e (inr a) (inl b) d = omega arith
together-tie e (inr a) (inr b) d = omega arith

-- ---- places

module _ (m : ℕ) (few : m ≤ 128) (kept : ℕ → Bool) (pair : ℕ → ℕ → Bool) where
  fewer : (k : ℕ) {j : ℕ} → k ≤ j → (x : ℕ → ℕ) → Splits m kept pair j x → Splits m kept pair k x
  fewer k le x h = record { two = h.two; apart = λ a b hab hb w. h.apart a b hab hb (omega arith) }

  -- every fragment by itself
  pub start : {l s : ℕ → ℕ} → ((a : ℕ) → a < m → T (kept a) → (l a ≡ a) × (s a ≡ 1)) → ((a : ℕ) → a < m → T (isnt (kept a)) → (l a ≡ 255) × (s a ≡ 0))
      → State m kept pair 0 l s
  start {l} {s} on off = record {
    low = λ a ha ka. let e = (on a ha ka).0 in omega arith;
    chain = λ a ha ka. rw (on a ha ka).0 alone;
    fixed = λ a ha ka. ap l (on a ha ka).0;
    met = λ a b hab hb w. absurd (not-suc-le-zero w);
    unlabelled = λ a ha n. (off a ha n).0;
    splits = record { two = λ a ha ka. inl (on a ha ka).1; apart = λ a b hab hb w. absurd (not-suc-le-zero w) };
    one = λ a ha ka. rw (on a ha ka).0 (on a ha ka).1;
    forced = λ x h a ha ka. inl ((on a ha ka).1, ap x (sym (on a ha ka).0));
    off = λ a ha n. (off a ha n).1;
  }

  -- what holds of the pairs before place k holds of those before a later one, if it holds of the pairs between
  more : (P : ℕ → ℕ → Type 0) (k k' : ℕ) → ((a b : ℕ) → a < b → b < m → a * 128 + b < k → T (pair a b) → P a b)
      → ((a b : ℕ) → a < b → b < m → k ≤ a * 128 + b → a * 128 + b < k' → T (pair a b) → P a b) → (a b : ℕ) → a < b → b < m → a * 128 + b < k' → T (pair a b) → P a b
  more P k k' old new a b hab hb w t = go (dec_lt (a * 128 + b) k)
    where
      go : Dec (a * 128 + b < k) → P a b
      go (yes h) = old a b hab hb h t
      go (no h) = new a b hab hb (omega arith) w t

  -- pairs of one label that are apart already
  pub keep : (k k' : ℕ) {l s : ℕ → ℕ} → k ≤ k' → State m kept pair k l s
      → ((a b : ℕ) → a < b → b < m → k ≤ a * 128 + b → a * 128 + b < k' → T (pair a b) → (l a ≡ l b) × (s a + s b ≡ 3)) → State m kept pair k' l s
  keep k k' {l} {s} le st between = record {
    low = st.low;
    chain = st.chain;
    fixed = st.fixed;
    met = more (λ a b. l a ≡ l b) k k' st.met (λ a b hab hb u w t. (between a b hab hb u w t).0);
    unlabelled = st.unlabelled;
    splits = record { two = st.splits.two; apart = more (λ a b. s a + s b ≡ 3) k k' st.splits.apart (λ a b hab hb u w t. (between a b hab hb u w t).1) };
    one = st.one;
    forced = λ x h. st.forced x (fewer k le x h);
    off = st.off;
  }

  -- places without a pair
  pub skip : (k k' : ℕ) {l s : ℕ → ℕ} → k ≤ k' → ((a b : ℕ) → a < b → b < m → k ≤ a * 128 + b → a * 128 + b < k' → T (pair a b) → ⊥) → State m kept pair k l s → State m kept pair k' l s
  skip k k' le none st = keep k k' le st (λ a b hab hb u w t. absurd (none a b hab hb u w t))

  -- ---- the pair of i and j

  module _ {i j : ℕ} {l s : ℕ → ℕ} (links : Links m kept pair) (hij : i < j) (hj : j < m) (t : T (pair i j)) (st : State m kept pair (i * 128 + j) l s) where
    hi : i < m
    hi = omega arith

    ki : T (kept i)
    ki = links.ends i j hi hj t

    kj : T (kept j)
    kj = links.ends j i hj hi (links.back i j hi hj t)

    -- what holds of the pairs before i and j, and of these, holds of those before the next place
    each : (P : ℕ → ℕ → Type 0) → ((a b : ℕ) → a < b → b < m → a * 128 + b < i * 128 + j → T (pair a b) → P a b) → P i j
        → (a b : ℕ) → a < b → b < m → a * 128 + b < i * 128 + (j + 1) → T (pair a b) → P a b
    each P old new = more P (i * 128 + j) (i * 128 + (j + 1)) old (λ a b hab hb u w t. this a b hab hb u w)
      where
        this : (a b : ℕ) → a < b → b < m → i * 128 + j ≤ a * 128 + b → a * 128 + b < i * 128 + (j + 1) → P a b
        this a b hab hb u w =
            let ea : a ≡ i = omega arith in
            let eb : b ≡ j = omega arith in
            rw (ea, eb) new

    -- of one label, and on one side: no lawful sides
    pub clash : l i ≡ l j → s i ≡ s j → NoSides m kept pair
    clash same one = record {
      none = λ x h.
          let f = fewer (i * 128 + j) (omega arith) x h in
          together-tie {sp = s i} {xp = x i} {y = x (l j)} one (rw same at (st.forced x f i hi ki)) (st.forced x f j hj kj) (h.apart i j hij hj (omega arith) t);
    }

    -- of one label, and on two sides
    pub settled-apart : l i ≡ l j → (turn : Bool) → turn ≡ (s i =? s j) → turn ≡ false → State m kept pair (i * 128 + (j + 1)) l s
    settled-apart same turn e f =
        keep (i * 128 + j) (i * 128 + (j + 1)) (omega arith) st (λ a b hab hb u w r.
        let ea : a ≡ i = omega arith in
        let eb : b ≡ j = omega arith in
        rw (ea, eb) (same, apart (turns-of turn e (st.splits.two i hi ki) (st.splits.two j hj kj))))
      where
        apart : Turns turn (s i) (s j) → s i + s j ≡ 3
        apart (inl w) = absurd (not-both w.0 f)
        apart (inr w) = w.1

    -- The pair joins two components: of u and v, which are its members in some order, v has the higher label.
    module _ {u v : ℕ} {turn : Bool} {l' s' : ℕ → ℕ} (order : ((u ≡ i) × (v ≡ j)) ⊎ ((u ≡ j) × (v ≡ i)))
        (lower : l u < l v) (equal : turn ≡ (s u =? s v)) (joins : Joined m (l u) (l v) turn l s l' s') where
      -- what holds of i and j, and of j and i, holds of u and v
      members : (P : ℕ → ℕ → Type 0) → P i j → P j i → P u v
      members P x y = go order
        where
          go : ((u ≡ i) × (v ≡ j)) ⊎ ((u ≡ j) × (v ≡ i)) → P u v
          go (inl e) = rw (e.0, e.1) x
          go (inr e) = rw (e.0, e.1) y

      -- and the other way
      ordered : (P : ℕ → ℕ → Type 0) → P u v → P v u → P i j
      ordered P x y = go order
        where
          go : ((u ≡ i) × (v ≡ j)) ⊎ ((u ≡ j) × (v ≡ i)) → P i j
          go (inl e) = rw (← e.0, ← e.1) x
          go (inr e) = rw (← e.0, ← e.1) y

      hu : u < m
      hu = members (λ a b. a < m) hi hj

      hv : v < m
      hv = members (λ a b. b < m) hj hi

      linked : T (pair v u)
      linked = members (λ a b. T (pair b a)) (links.back i j hi hj t) t

      kv : T (kept v)
      kv = links.ends v u hv hu linked

      ku : T (kept u)
      ku = links.ends u v hu hv (links.back v u hv hu linked)

      abbrev Place : ℕ → Type 0
      Place a = ((l a ≡ l v) × (l' a ≡ l u) × (s' a ≡ side_turned turn (s a))) ⊎ ((l a ≡ l v → ⊥) × (l' a ≡ l a) × (s' a ≡ s a))

      place : (a : ℕ) → a < m → Place a
      place a ha = go (ℕ_discrete (l a) (l v))
        where
          go : Dec (l a ≡ l v) → Place a
          go (yes e) = let r = joins.moved a ha e in inl (e, r.0, r.1)
          go (no ne) = let r = joins.left a ha ne in inr (ne, r.0, r.1)

      other : l u ≡ l v → ⊥
      other e = omega arith

      -- a label that is not taken in stays as it is
      settled : (a : ℕ) → a < m → T (kept a) → (l a ≡ l v → ⊥) → (l' (l a) ≡ l a) × (s' (l a) ≡ s (l a))
      settled a ha ka ne =
          let low = st.low a ha ka in
          let r = joins.left (l a) (omega arith) (λ e. ne (sym (st.fixed a ha ka) ∙ e)) in
          (r.0 ∙ st.fixed a ha ka, r.1)

      of-label : (P : ℕ → Type 0) → P (l u) → ((a : ℕ) → a < m → T (kept a) → (l a ≡ l v → ⊥) → P (l a)) → (a : ℕ) → a < m → T (kept a) → P (l' a)
      of-label P low rest a ha ka = go (place a ha)
        where
          go : Place a → P (l' a)
          go (inl e) = rw e.1 low
          go (inr e) = rw e.1 (rest a ha ka e.0)

      low' : (a : ℕ) → a < m → T (kept a) → l' a ≤ a
      low' a ha ka = go (st.low a ha ka) (place a ha)
        where
          go : l a ≤ a → Place a → l' a ≤ a
          go low (inl e) = omega arith
          go low (inr e) = omega arith

      trans : {a b c : ℕ} → Chain m pair a b → Chain m pair b c → Chain m pair a c
      trans x alone = x
      trans x (onward y h l) = onward (trans x y) h l

      back : {a b : ℕ} → b < m → Chain m pair a b → Chain m pair b a
      back hb alone = alone
      back {a} {b} hb (onward {h} y hh z) = trans (onward alone hb (links.back h b hh hb z)) (back hh y)

      across : Chain m pair (l v) (l u)
      across = let low = st.low v hv kv in let h = hv in trans (back (omega arith) (st.chain v hv kv)) (trans (onward alone hv linked) (st.chain u hu ku))

      chain' : (a : ℕ) → a < m → T (kept a) → Chain m pair a (l' a)
      chain' a ha ka = go (place a ha)
        where
          go : Place a → Chain m pair a (l' a)
          go (inl e) = rw e.1 (trans (rw e.0 at (st.chain a ha ka)) across)
          go (inr e) = rw e.1 (st.chain a ha ka)

      met' : (a b : ℕ) → a < b → b < m → a * 128 + b < i * 128 + (j + 1) → T (pair a b) → l' a ≡ l' b
      met' = each (λ a b. l' a ≡ l' b) (λ a b hab hb w t. old (st.met a b hab hb w t) (place a (omega arith)) (place b hb)) (ordered (λ a b. l' a ≡ l' b) new (sym new))
        where
          old : {a b : ℕ} → l a ≡ l b → Place a → Place b → l' a ≡ l' b
          old e (inl d) (inl f) = omega arith
          old e (inl d) (inr f) = absurd (f.0 (omega arith))
          old e (inr d) (inl f) = absurd (d.0 (omega arith))
          old e (inr d) (inr f) = omega arith

          new : l' u ≡ l' v
          new = let x = joins.left u hu other in let y = joins.moved v hv refl in omega arith

      gone : (a : ℕ) → a < m → T (isnt (kept a)) → (l' a ≡ l a) × (s' a ≡ s a)
      gone a ha n =
          let o = st.unlabelled a ha n in
          let low = st.low v hv kv in
          let h = hv in
          joins.left a ha (λ e. omega arith)

      turns : Turns turn (s u) (s v)
      turns = turns-of turn equal (st.splits.two u hu ku) (st.splits.two v hv kv)

      two' : (a : ℕ) → a < m → T (kept a) → Two (s' a)
      two' a ha ka = go (place a ha)
        where
          go : Place a → Two (s' a)
          go (inl e) = turned_two turn e.2 (st.splits.two a ha ka)
          go (inr e) = rw e.2 (st.splits.two a ha ka)

      apart' : (a b : ℕ) → a < b → b < m → a * 128 + b < i * 128 + (j + 1) → T (pair a b) → s' a + s' b ≡ 3
      apart' = each (λ a b. s' a + s' b ≡ 3) old (ordered (λ a b. s' a + s' b ≡ 3) new (omega (arith, new)))
        where
          new : s' u + s' v ≡ 3
          new = rw (joins.left u hu other).1 (joined-apart turns (st.splits.two v hv kv) (joins.moved v hv refl).1)

          old : (a b : ℕ) → a < b → b < m → a * 128 + b < i * 128 + j → T (pair a b) → s' a + s' b ≡ 3
          old a b hab hb w h = go (st.met a b hab hb w h) (st.splits.apart a b hab hb w h) (place a ha) (place b hb)
            where
              ha : a < m
              ha = omega arith

              ka : T (kept a)
              ka = links.ends a b ha hb h

              kb : T (kept b)
              kb = links.ends b a hb ha (links.back a b ha hb h)

              go : l a ≡ l b → s a + s b ≡ 3 → Place a → Place b → s' a + s' b ≡ 3
              go e f (inl d) (inl g) = turned_apart turn (st.splits.two a ha ka) (st.splits.two b hb kb) d.2 g.2 f
              go e f (inl d) (inr g) = absurd (g.0 (omega arith))
              go e f (inr d) (inl g) = absurd (d.0 (omega arith))
              go e f (inr d) (inr g) = omega arith

      labels-tied : (x : ℕ → ℕ) → Splits m kept pair (i * 128 + (j + 1)) x → ((turn ≡ true) × (x (l v) + x (l u) ≡ 3)) ⊎ ((turn ≡ false) × (x (l v) ≡ x (l u)))
      labels-tied x h =
          let f = fewer (i * 128 + j) (omega arith) x h in
          let r = h.apart i j hij hj (omega arith) t in
          label-tie turns (st.forced x f u hu ku) (st.forced x f v hv kv) (members (λ a b. x a + x b ≡ 3) r (omega arith))

      forced' : (x : ℕ → ℕ) → Splits m kept pair (i * 128 + (j + 1)) x → (a : ℕ) → a < m → T (kept a) → Tied (s' a) (x a) (x (l' a))
      forced' x h a ha ka = go (st.forced x (fewer (i * 128 + j) (omega arith) x h) a ha ka) (place a ha)
        where
          go : Tied (s a) (x a) (x (l a)) → Place a → Tied (s' a) (x a) (x (l' a))
          go old (inl e) = rw e.1 (moved-tie (rw e.0 at old) (labels-tied x h) e.2)
          go old (inr e) = rw (e.1, e.2) old

      pub join : State m kept pair (i * 128 + (j + 1)) l' s'
      join = record {
        low = low';
        chain = chain';
        fixed = of-label (λ y. l' y ≡ y) (settled u hu ku other).0 (λ a ha ka ne. (settled a ha ka ne).0);
        met = met';
        unlabelled = λ a ha n. (gone a ha n).0 ∙ st.unlabelled a ha n;
        splits = record { two = two'; apart = apart' };
        one = of-label (λ y. s' y ≡ 1) ((settled u hu ku other).1 ∙ st.one u hu ku) (λ a ha ka ne. (settled a ha ka ne).1 ∙ st.one a ha ka);
        forced = forced';
        off = λ a ha n. (gone a ha n).1 ∙ st.off a ha n;
      }

  -- ---- after all places a label is the lowest fragment that a chain joins

  module _ (links : Links m kept pair) {l s : ℕ → ℕ} (st : State m kept pair 16384 l s) where
    -- pairs go both ways
    met-any : (a b : ℕ) → a < m → b < m → T (pair a b) → l a ≡ l b
    met-any a b ha hb t = go (dec_lt a b) (dec_lt b a)
      where
        go : Dec (a < b) → Dec (b < a) → l a ≡ l b
        go (yes h) k = st.met a b h hb (omega arith) t
        go (no h) (yes k) = sym (st.met b a k ha (omega arith) (links.back a b ha hb t))
        go (no h) (no k) = let e : a ≡ b = omega arith in ap l e

    one_label : {a b : ℕ} → b < m → Chain m pair a b → l a ≡ l b
    one_label hb alone = refl
    one_label {a} {b} hb (onward {h} c hh t) = one_label hh c ∙ met-any h b hh hb t

    kept-along : {a b : ℕ} → b < m → T (kept a) → Chain m pair a b → T (kept b)
    kept-along hb ka alone = ka
    kept-along {a} {b} hb ka (onward {h} c hh t) = links.ends b h hb hh (links.back h b hh hb t)

    is-lowest : (a : ℕ) → a < m → T (kept a) → l a ≡ lowest m pair a
    is-lowest a ha ka =
        let low = st.low a ha ka in
        let x = lowest-least m pair a ha (st.chain a ha ka) (omega arith) in
        let inside = lowest-inside m pair a ha in
        let c = lowest-chain m pair a ha in
        let e = one_label inside c in
        let y = st.low (lowest m pair a) inside (kept-along inside ka c) in
        omega arith

pub are-lowests : (m : ℕ) → m ≤ 128 → (kept labels : List ℕ) (pair : ℕ → ℕ → Bool) → Links m (marked kept) pair → length labels ≡ m
    → {s : ℕ → ℕ} → State m (marked kept) pair 16384 (nth labels) s → labels ≡ lowests m pair kept
unfolding lowests
are-lowests m few kept labels pair links size st =
    ext_get_or 0 labels (tab m label) (size ∙ sym (length-tab m label)) λ i h.
    go i (omega arith) (decided (marked kept i)) ∙ sym (get_or-tab m label i 0 (omega arith))
  where
    label : ℕ → ℕ
    label a = if marked kept a then lowest m pair a else 255

    go : (i : ℕ) → i < m → T (marked kept i) ⊎ T (isnt (marked kept i)) → nth labels i ≡ label i
    go i h (inl t) = is-lowest m few (marked kept) pair links st i h t ∙ sym (if-true (marked kept i) (lowest m pair i) 255 t)
    go i h (inr n) = st.unlabelled i h n ∙ sym (if-false (marked kept i) (lowest m pair i) 255 n)
