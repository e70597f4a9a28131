-- The table over pairs of states, one fragment more: its room, and its rows.
-- Assumes nothing.
use Rattle.std.specs.Prelude.{if◌then◌else◌}
use mathlib.Core.Path.{◌≡◌, refl, sym, ap, subst, ◌∙◌}
use mathlib.Core.Bool.{Bool, true, false}
use Prim.Native.Nat.{ℕ, ◌+◌, ◌^◌, ◌-◌, ◌≤◌, ◌<◌, max, zero-le}
use native.Mathlib.Nat.{le_refl, le_trans, le_antisymm, max-le, le-max_left, le-max_right, max-eq_left, max-eq_right}
use native.Mathlib.Numerals.{add-one}
use native.Mathlib.Decide.{ℕ_discrete, dec_le}
use native.Mathlib.Omega.{arith}
use Rattle.below.specs.Below.{◌<?◌}
use Rattle.below.proofs.BelowLaws.{if-ind, if-true, if-false, lt-<?, le-isnt}
use Rattle.ranks.specs.declared.rank.Rank.{Rank}
use Rattle.ranks.specs.Algorithm.Weight.{top, AtMost}
use Rattle.ranks.specs.Algorithm.Reading.{code, value, SumFits}
use Rattle.ranks.specs.Algorithm.Tables.{Put, Sweep}
use Rattle.ranks.proofs.WeightLaws.{at_most-more, at_most-add}
use Rattle.ranks.proofs.TableLaws.{parts-small, put_as, sweep-more}
use Rattle.fragment_pairs.specs.Algorithm.Layer.{furthest, keep_fragment, with_fragment_in}
use Rattle.fragment_pairs.specs.Algorithm.Pairs.{row_start_of, corner, along, Fits, FragmentRoom, Rows, Made}
use Rattle.fragment_pairs.proofs.CornerLaws.{row_next, row-after, corner-row, corner-swap, corner-least}

-- ---- room

-- the fragment's own weight and one that has room for it add up
pub sum_fits : (own b : Rank) {v : ℕ} (others : ℕ) → own.count ≤ 1 → code own + others < top → b.high < 2 ^ 64 → b.low < 2 ^ 64 → value b ≡ v → AtMost 127 others v → SumFits own b
sum_fits own b others few fits bh bl e m =
    let y = parts-small b bh bl e m (below (code own) others top fits) in
    record { counts = small few y.0; codes = total (code own) (code b) others top fits y.1 }
  where
    below : (x s t : ℕ) → x + s < t → s < t
    below x s t h = omega arith

    small : {x y : ℕ} → x ≤ 1 → y ≤ 127 → x + y < 2 ^ 32
    small hx hy = omega arith

    total : (x y s t : ℕ) → x + s < t → y ≤ s → x + y < t
    total x y s t h l = omega arith

-- what the sum comes to
own-small : (own : Rank) {others v : ℕ} → own.count ≤ 1 → AtMost 127 others v → AtMost 128 (code own + others) (value own + v)
own-small own few m = at_most-add (record { cost = own.count; places = code own; is = refl; few = few; low = le_refl (code own) }) m

-- the greater of two weights that have room
at_most-max : {c s v w : ℕ} → AtMost c s v → AtMost c s w → AtMost c s (max v w)
at_most-max {c} {s} {v} {w} a b =
    elim (dec_le v w) [ yes le ↦ subst (AtMost c s) (sym (max-eq_right le)) b | no nle ↦ subst (AtMost c s) (sym (max-eq_left {n = v} {m = w} (omega arith))) a ]

-- what the programme chooses has the room of what it chooses between
pub keep-small : (a b : Bool) {c s one two rest : ℕ} → AtMost c s one → AtMost c s two → AtMost c s rest → AtMost c s (keep_fragment a b one two rest)
keep-small true true x y z = at_most-max (at_most-max z y) x
keep-small true false x y z = at_most-max z x
keep-small false true x y z = at_most-max z y
keep-small false false x y z = z

-- the weight that the fragment makes has a count of 16 bits
pub count_fits : (own r : Rank) (a b moves : Bool) {far one rest : ℕ} → Fits own far one rest → r.high < 2 ^ 64 → r.low < 2 ^ 64
    → value r ≡ keep_fragment a b (value own + one) (if moves then far else value own + rest) rest → r.count < 65536
count_fits own r a b moves {far} {one} {rest} f hh hl e =
    short (parts-small r hh hl e (keep-small a b (own-small own f.few f.one_small) two (at_most-more (omega arith) (omega arith) f.rest_small)) f.fits).0
  where
    two : AtMost 128 (code own + f.others) (if moves then far else value own + rest)
    two = if-ind (AtMost 128 (code own + f.others)) moves (λ t. f.far_small) (λ t. own-small own f.few f.rest_small)

    short : {c : ℕ} → c ≤ 128 → c < 65536
    short l = omega arith

-- the same where side 1 is not joined
pub fits-here : {own : Rank} {far one rest : ℕ} → Fits own far one rest → Fits own far rest rest
fits-here f = record { others = f.others; few = f.few; fits = f.fits; far_small = f.far_small; one_small = f.rest_small; rest_small = f.rest_small }

-- equal choices
pub keep_same : {a a' b b' : Bool} {own own' x x' y y' z z' : ℕ} → a ≡ a' → b ≡ b' → own ≡ own' → x ≡ x' → y ≡ y' → z ≡ z'
    → keep_fragment a b (own + x) (own + y) z ≡ keep_fragment a' b' (own' + x') (own' + y') z'
keep_same ea eb eo ex ey ez = rw (ea, eb, eo, ex, ey, ez)

-- what the weights and tests of a fragment come to
pub chosen-weight : (a b b' : Bool) (here : ℕ) {x y z two one best r : ℕ} → b ≡ b' → best ≡ (if b then max here two else here) → r ≡ (if a then max best one else best)
    → one ≡ x → two ≡ y → here ≡ z → r ≡ keep_fragment a b' x y z
chosen-weight a b b' here e eb er ex ey ez = er ∙ rw (eb, e, ex, ey, ez)

-- a weight that may be taken, and one that may not
pub taken-weight : {may : Bool} (best : ℕ) {other x r : ℕ} → may ≡ true → r ≡ max best other → other ≡ x → r ≡ (if may then max best x else best)
taken-weight best e a b = a ∙ rw (e, b)

pub left-weight : {may : Bool} (best x : ℕ) → may ≡ false → best ≡ (if may then max best x else best)
left-weight best x e = rw e

-- one that adds the fragment's own weight is the greater
pub own-adds : (own here : ℕ) → own + here ≡ max here (own + here)
own-adds own here = sym (max-eq_right (omega arith))

-- a table that stays as it is has at a place what it has there
pub put-none : (v : ℕ → ℕ) (j : ℕ) {x : ℕ} → v j ≡ x → Put v v j x
put-none v j e = record { here = e; there = λ i ne. refl }

-- ---- sweeps that end where a number by another name says

pub sweep-at : {f old now : ℕ → ℕ} {a j k : ℕ} → Sweep f old now a j → j ≡ k → Sweep f old now a k
sweep-at {f} {old} {now} {a} s e = subst (Sweep f old now a) e s

-- ---- a row in place

-- a state moves on, if it moves
pub furthest-range : (reaches : ℕ → ℕ) (s i : ℕ) → s ≤ i → (s ≤ furthest reaches s i) × (furthest reaches s i ≤ i + 1)
furthest-range reaches s i h = if-ind (λ x. (s ≤ x) × (x ≤ i + 1)) (reaches s <? reaches (i + 1)) (λ t. (omega arith, omega arith)) (λ t. (omega arith, omega arith))

pub further : (reaches : ℕ → ℕ) (s i : ℕ) → reaches s < reaches (i + 1) → i + 1 ≡ furthest reaches s i
further reaches s i h = sym (if-true (reaches s <? reaches (i + 1)) (i + 1) s (lt-<? _ _ h))

pub no-further : (reaches : ℕ → ℕ) (s i : ℕ) → reaches (i + 1) ≤ reaches s → s ≡ furthest reaches s i
no-further reaches s i h = sym (if-false (reaches s <? reaches (i + 1)) (i + 1) s (le-isnt _ _ h))

-- the weight with the fragment on a side, by the test whether its state moves on
pub joined-far : {a b : ℕ} (far here : ℕ) → a < b → far ≡ (if a <? b then far else here)
joined-far {a} {b} far here h = sym (if-true (a <? b) far here (lt-<? _ _ h))

pub joined-here : {a b : ℕ} (far here : ℕ) → b ≤ a → here ≡ (if a <? b then far else here)
joined-here {a} {b} far here h = sym (if-false (a <? b) far here (le-isnt _ _ h))

-- a table of weights, by pairs of states
abbrev pub square : (ℕ → ℕ) → ℕ → ℕ → ℕ
square v h l = v (corner h l)

-- what a row of state h reads: it begins at `start`, the row that h moves to at `next`, and `far` is the weight with side 2 at the state of a fragment that weighs `own`
pub record RowReads (reaches : ℕ → ℕ) (own i : ℕ) (old : ℕ → ℕ) (h start next far : ℕ) : Type 0 where
  pub begins : start ≡ row_start_of h
  pub moves : next ≡ row_start_of (furthest reaches h i)
  pub last : far ≡ own + old (corner h (i + 1))

-- the states from d on and below l have the fragment at position i before them, in the row of state h
module _ (may : ℕ → Bool) (reaches : ℕ → ℕ) (own : Rank) (i : ℕ) (old now : ℕ → ℕ) (d h l : ℕ) {start next far : ℕ} (reads : RowReads reaches (value own) i old h start next far) (hi : h ≤ i) (dl : d ≤ l) (lh : l ≤ h)
    (row : Sweep (along (with_fragment_in may reaches (value own) i (square old)) h) old now (row_start_of h + d) (row_start_of h + l)) where
  -- pairs of states that are not before this one are as they were
  ahead : (x y : ℕ) → y ≤ x → h ≤ x → l ≤ y → now (row_start_of x + y) ≡ square old x y
  ahead x y yx hx ly = ap now (sym (corner-row x y yx)) ∙ row.rest (corner x y) (λ lo up. let c = corner-least h l x y lh hx ly in omega arith)

  one-weight : now (next + l) ≡ square old (furthest reaches h i) l
  one-weight = let range = (furthest-range reaches h i hi).0 in rw reads.moves (ahead (furthest reaches h i) l (le_trans lh range) range (le_refl l))

  here-weight : now (start + l) ≡ square old h l
  here-weight = rw reads.begins (ahead h l lh (le_refl h) (le_refl l))

  two-weight : (if reaches l <? reaches (i + 1) then far else value own + now (start + l)) ≡ value own + square old h (furthest reaches l i)
  two-weight = rw (here-weight, reads.last) (by-test (reaches l <? reaches (i + 1)))
    where
      by-test : (b : Bool) → (if b then value own + square old h (i + 1) else value own + square old h l) ≡ value own + square old h (if b then i + 1 else l)
      by-test true = refl
      by-test false = refl

  -- there is room for the fragment's own weight
  pub row_fits : FragmentRoom own d h (i + 1) (square old) → Fits own far (now (next + l)) (now (start + l))
  row_fits room =
      let hr = furthest-range reaches h i hi in
      record {
        others = room.others;
        few = room.few;
        fits = room.fits;
        far_small = rw reads.last (own-small own room.few (room.small h (i + 1) (le_refl h) (omega arith) (omega arith) (le_refl (i + 1))));
        one_small = rw one-weight (room.small (furthest reaches h i) l hr.0 hr.1 dl (omega arith));
        rest_small = rw here-weight (room.small h l (le_refl h) (omega arith) dl (omega arith));
      }

  -- one place more
  pub row_more : {after : ℕ → ℕ} (a : Bool) {r : ℕ} → a ≡ may h
      → r ≡ keep_fragment a (may l) (value own + now (next + l)) (if reaches l <? reaches (i + 1) then far else value own + now (start + l)) (now (start + l))
      → Put now after (start + l) r → Sweep (along (with_fragment_in may reaches (value own) i (square old)) h) old after (row_start_of h + d) (row_start_of h + (l + 1))
  row_more {after} a {r} ea er put =
      let f = with_fragment_in may reaches (value own) i (square old) in
      let is : r ≡ f h l = er ∙ rw (ea, one-weight, two-weight, here-weight) in
      let it : l ≡ row_start_of h + l - row_start_of h = omega arith in
      let e : row_start_of h + l + 1 ≡ row_start_of h + (l + 1) = omega arith in
      sweep-at (sweep-more (omega arith) row (put_as (subst (λ (x : ℕ). Put now after (x + l) r) reads.begins put) (is ∙ ap (f h) it))) e

-- ---- rows

pub rows_none : (f : ℕ → ℕ → ℕ) (old : ℕ → ℕ) (d : ℕ) → Rows f old old d d
rows_none f old d = record { done = λ s q dq l k. absurd (omega arith); rest = λ j l. refl }

max-swap-le : (a b c : ℕ) → max (max a b) c ≤ max (max a c) b
max-swap-le a b c =
    let ac = le-max_left (max a c) b in
    max-le (max-le (le_trans (le-max_left a c) ac) (le-max_right (max a c) b)) (le_trans (le-max_right a c) ac)

-- the sides are alike
pub keep-swap : (a b : Bool) (x y z : ℕ) → keep_fragment a b x y z ≡ keep_fragment b a y x z
keep-swap true true x y z = le_antisymm (max-swap-le z y x) (max-swap-le z x y)
keep-swap true false x y z = refl
keep-swap false true x y z = refl
keep-swap false false x y z = refl

module _ (may : ℕ → Bool) (reaches : ℕ → ℕ) (own i : ℕ) (old now : ℕ → ℕ) (d h : ℕ) (rows : Rows (with_fragment_in may reaches own i (square old)) old now d h) where
  -- the rows from h on are as they were
  below_rows : (s q : ℕ) → h ≤ s → square now s q ≡ square old s q
  below_rows s q hs = rows.rest (corner s q) (let c = corner-least h 0 s q zero-le hs zero-le in omega arith)

  -- the next row has room
  pub rows-room : (r : Rank) → d ≤ h → FragmentRoom r d d (i + 1) (square old) → FragmentRoom r d h (i + 1) (square now)
  rows-room r dh room = record {
    others = room.others;
    few = room.few;
    fits = room.fits;
    small = λ s q hs sn dq qn. rw (below_rows s q hs) (room.small s q (omega arith) sn dq qn);
  }

  -- one row more
  pub rows_more : {next : ℕ → ℕ} → h ≤ i → Sweep (along (with_fragment_in may reaches own i (square now)) h) now next (row_start_of h + d) (row_start_of h + (h + 1))
      → Rows (with_fragment_in may reaches own i (square old)) old next d (h + 1)
  rows_more {next} hi s = record { done = done; rest = rest }
    where
      ends : row_start_of (h + 1) ≡ row_start_of h + (h + 1)
      ends = rw (add-one h) (row_next h)

      made : (q : ℕ) → d ≤ q → q ≤ h → next (row_start_of h + q) ≡ with_fragment_in may reaches own i (square old) h q
      made q dq l =
          let it : row_start_of h + q - row_start_of h ≡ q = omega arith in
          s.done (row_start_of h + q) (omega arith) (omega arith) ∙ ap (with_fragment_in may reaches own i (square now) h) it
          ∙ keep_same {a = may h} {b = may q} {own = own} refl refl refl (below_rows (furthest reaches h i) q (furthest-range reaches h i hi).0) (below_rows h (furthest reaches q i) (le_refl h)) (below_rows h q (le_refl h))

      done : (a q : ℕ) → d ≤ q → q ≤ a → a < h + 1 → next (row_start_of a + q) ≡ with_fragment_in may reaches own i (square old) a q
      done a q dq qa la = elim (ℕ_discrete a h) [
        | yes e ↦ subst (λ (x : ℕ). next (row_start_of x + q) ≡ with_fragment_in may reaches own i (square old) x q) (sym e) (made q dq (omega arith))
        | no ne ↦ s.rest (row_start_of a + q) (λ lo up. let c = row-after a h (omega arith) in omega arith) ∙ rows.done a q dq qa (omega arith)
      ]

      rest : (j : ℕ) → row_start_of (h + 1) ≤ j → next j ≡ old j
      rest j l = s.rest j (λ lo up. omega (arith, ends)) ∙ rows.rest j (omega (arith, ends))

  -- all rows: a pair is made whichever side is at which state
  pub rows_made : (n : ℕ) → n ≤ h → Made (with_fragment_in may reaches own i (square old)) (square now) d n
  rows_made n nh = record { made = made }
    where
      alike : (v : ℕ → ℕ) (x y : ℕ) → square v x y ≡ square v y x
      alike v x y = ap v (corner-swap x y)

      lower : (a q : ℕ) → d ≤ q → q ≤ a → a < n → square now a q ≡ with_fragment_in may reaches own i (square old) a q
      lower a q dq qa la = ap now (corner-row a q qa) ∙ rows.done a q dq qa (omega arith)

      made : (a q : ℕ) → d ≤ a → d ≤ q → a < n → q < n → square now a q ≡ with_fragment_in may reaches own i (square old) a q
      made a q da dq la lq = elim (dec_le q a) [
        | yes l ↦ lower a q dq l la
        | no l ↦
            alike now a q ∙ lower q a da (omega arith) lq
            ∙ keep-swap (may q) (may a) (own + square old (furthest reaches q i) a) (own + square old q (furthest reaches a i)) (square old q a)
            ∙ keep_same {a = may a} {b = may q} {own = own} refl refl refl (alike old q (furthest reaches a i)) (alike old (furthest reaches q i) a) (alike old q a)
      ]
