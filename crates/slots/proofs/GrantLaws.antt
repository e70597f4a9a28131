-- Slots are granted turn by turn.
-- Assumes nothing.
use mathlib.Core.Path.{◌≡◌, refl, sym, ap, ap₂, subst, ◌∙◌}
use mathlib.Core.Bool.{Bool, true, false}
use mathlib.Core.List.{List}
use Prim.Native.Nat.{ℕ, zero, suc, ◌+◌, ◌*◌, ◌≤◌, ◌<◌}
use native.Mathlib.Decide.{ℕ_discrete}
use native.Mathlib.Omega.{arith}
use lib.Dec.{T}
use lib.ListN.{length, get_or, set, replicate, length-set, length-replicate}
use lib.Seq.{get_or-set_same, get_or-set_other}
use Rattle.std.proofs.lemmas.List.{get_or-replicate}
use Rattle.below.specs.Below.{◌=?◌, ◌and◌, ◌or◌, isnt, any_below, count_below, first_below, nth}
use Rattle.below.proofs.BelowLaws.{any-ext}
use Rattle.below.proofs.SearchLaws.{=?-true, =?-false, <?-true, any-more}
use Rattle.conflicts.specs.Grid.{Grid, stretch_covers, coverage}
use Rattle.matrix.specs.Algorithm.Matrix.{matrix_grid, weighted_grid}
use Rattle.conflicts.specs.Served.{NoneDeep}
use Rattle.events.specs.Algorithm.Events.{with_value}
use Rattle.events.specs.Algorithm.Slots.{turn_of, taken, used, free_slot_of, Given}
use Rattle.events.proofs.LeastLaws.{value_same, value-other}
use Rattle.events.proofs.FreeLaws.{free-below, free-apart, given-none, given-skip, given-more, given-next, given-apart}
use Rattle.slots.specs.Algorithm.Columns.{first_column, end_column_of, covers}
use Rattle.slots.specs.declared.spans.Span.{Span}
use Rattle.slots.specs.Algorithm.Spans.{span_at, has_column, entered_by, hit_slot, used_by, free_by, Spans, Marks, Spanned, Granted, Slotted}
use Rattle.slots.proofs.CoverLaws.{grid-starts, start-le, coverage-is}

-- ---- lists

pub zeros-at : (n i : ℕ) → ◌≡◌ {A = ℕ} (get_or (replicate n 0) i 0) 0
zeros-at zero i = refl
zeros-at (suc n) zero = refl
zeros-at (suc n) (suc i) = zeros-at n i

-- the lowest number that passes one of two tests that say the same
pub first-same : (n : ℕ) (p q : ℕ → Bool) → ((c : ℕ) → c < n → p c ≡ q c) → first_below n p ≡ first_below n q
unfolding first_below
first-same zero p q h = refl
first-same (suc n) p q h = rw (first-same n p q (λ c l. h c (omega arith)), h n (omega arith))

or-false : (b : Bool) → (b or false) ≡ b
unfolding ◌or◌
or-false true = refl
or-false false = refl

or-true : (b : Bool) → true ≡ (b or true)
unfolding ◌or◌
or-true true = refl
or-true false = refl

-- ---- the marks of the slots in use

module _ (spans : List Span) (slots : List ℕ) (c turn : ℕ) where
  pub marks-none : Marks 0 spans slots c turn (replicate 8 false)
  unfolding used_by any_below
  marks-none = record { size = length-replicate {A = Bool} 8 false; used = λ b h. get_or-replicate 8 b false false h }

  module _ (x : ℕ) (marks : List Bool) (h : Marks x spans slots c turn marks) where
    abbrev entered-x : Bool
    entered-x = entered_by (span_at spans x) x c turn

    used-more : (b : ℕ) → used_by (x + 1) spans slots c turn b ≡ (used_by x spans slots c turn b or (entered-x and get_or slots x 0 =? b))
    unfolding used_by hit_slot
    used-more b = any-more _ x

    pub marks-pass : entered-x ≡ false → Marks (x + 1) spans slots c turn marks
    unfolding ◌and◌
    marks-pass out = record { size = h.size; used = λ b lt. h.used b lt ∙ sym (used-more b ∙ rw out (or-false _)) }

    pub marks-more : entered-x ≡ true → get_or slots x 0 < 8 → Marks (x + 1) spans slots c turn (set marks (get_or slots x 0) true)
    unfolding ◌and◌
    marks-more in_use low =
        let k = get_or slots x 0 in
        let long = h.size in
        record {
          size = length-set marks k true ∙ h.size;
          used = λ b lt. elim (ℕ_discrete b k) [
            | yes e ↦
                ap (λ (y : ℕ). get_or (set marks k true) y false) e
                ∙ get_or-set_same marks k true false (omega arith)
                ∙ sym (used-more b ∙ rw (in_use, =?-true k b (sym e)) (sym (or-true _)))
            | no ne ↦
                get_or-set_other marks k b true false ne
                ∙ h.used b lt
                ∙ sym (used-more b ∙ rw (in_use, =?-false k b (λ q. ne (sym q))) (or-false _))
          ];
        }

  pub free-marked : (m : ℕ) (marks : List Bool) → Marks m spans slots c turn marks → first_below 8 (λ b. isnt (get_or marks b false)) ≡ free_by m spans slots c turn
  unfolding free_by
  free-marked m marks h = first-same 8 _ _ (λ b lt. ap isnt (h.used b lt))

module _ (g : Grid) (spans : List Span) (sp : Spanned g spans) where
  -- ---- what the lists say of a fragment

  pub hit-is : (slots : List ℕ) (c turn b x : ℕ) → x < g.m
      → hit_slot (span_at spans x) x (get_or slots x 0) c turn b ≡ (taken (first_column g) (covers g) c turn x and nth slots x =? b)
  unfolding hit_slot entered_by has_column taken covers ◌and◌
  hit-is slots c turn b x lt = rw (sp.begins x lt, sp.stops x lt, <?-true x g.m lt)

  -- the slot that the lists show free is the one that the theory takes
  pub free-is : (slots : List ℕ) (c turn : ℕ) → free_by g.m spans slots c turn ≡ free_slot_of (first_column g) (covers g) g.m 8 c turn (nth slots)
  unfolding free_by free_slot_of used_by used
  free-is slots c turn = first-same 8 _ _ (λ b l. ap isnt (any-ext g.m _ _ (hit-is slots c turn b)))

  pub spans-of : {slots : List ℕ} → g.m ≤ 128 → g.n ≤ 128 → ((x : ℕ) → get_or slots x 0 < 8) → Spans g.m spans slots
  spans-of few narrow fits = record {
    few = few;
    low = λ x l. let e = sp.begins x l in let h = start-le g x in omega arith;
    slots_low = fits;
  }

module _ (g : Grid) (small : g.m ≤ 128) where
  abbrev start : ℕ → ℕ
  start = first_column g

  given-same : (turn : ℕ) (s t : ℕ → ℕ) → ((x : ℕ) → s x ≡ t x) → Given start (covers g) g.m g.n 8 turn s → Given start (covers g) g.m g.n 8 turn t
  given-same turn s t e h = record {
    fits = λ x l b. subst (λ (y : ℕ). y < 8) (e x) (h.fits x l b);
    apart = λ d x y l a b ne p q same. h.apart d x y l a b ne p q (e x ∙ same ∙ sym (e y));
  }

  given-at : (turn turn' : ℕ) (s : ℕ → ℕ) → turn ≡ turn' → Given start (covers g) g.m g.n 8 turn s → Given start (covers g) g.m g.n 8 turn' s
  given-at turn turn' s e h = subst (λ (x : ℕ). Given start (covers g) g.m g.n 8 x s) e h

  deep : NoneDeep g → (c : ℕ) → c < g.n → count_below g.m (covers g c) ≤ 8
  deep sh c lt = subst (λ (k : ℕ). k ≤ 8) (coverage-is g c lt) (sh.shallow c lt)

  set_is : (slots : List ℕ) (f b x : ℕ) → f < length slots → get_or (set slots f b) x 0 ≡ with_value f b (nth slots) x
  set_is slots f b x lt = elim (ℕ_discrete x f) [
    | yes e ↦ subst (λ (y : ℕ). get_or (set slots f b) y 0 ≡ with_value f b (nth slots) y) (sym e) (get_or-set_same slots f b 0 lt ∙ sym (value_same f b (nth slots)))
    | no ne ↦ get_or-set_other slots f x b 0 ne ∙ sym (value-other f b (nth slots) x ne)
  ]

  set-low : (slots : List ℕ) (f b : ℕ) → f < length slots → ((i : ℕ) → get_or slots i 0 < 8) → b < 8 → (i : ℕ) → get_or (set slots f b) i 0 < 8
  set-low slots f b lt low lb i = elim (ℕ_discrete i f) [
    | yes e ↦ subst (λ (y : ℕ). get_or (set slots f b) y 0 < 8) (sym e) (subst (λ (y : ℕ). y < 8) (sym (get_or-set_same slots f b 0 lt)) lb)
    | no ne ↦ subst (λ (y : ℕ). y < 8) (sym (get_or-set_other slots f i b 0 ne)) (low i)
  ]

  -- ---- turn by turn

  -- the fragment's turn
  pub grant : (slots : List ℕ) (c f b : ℕ) → NoneDeep g → c < g.n → f < g.m → start f ≡ c → b ≡ free_slot_of start (covers g) g.m 8 c (c * 256 + f) (nth slots)
      → Granted g (c * 256 + f) slots → Granted g (c * 256 + (f + 1)) (set slots f b)
  grant slots c f b sh lt few e eb h =
      let t : c * 256 + f ≡ turn_of start f = ap (λ (x : ℕ). x * 256 + f) (sym e) in
      let is : b ≡ free_slot_of start (covers g) g.m 8 (start f) (turn_of start f) (nth slots) =
      eb ∙ ap₂ (λ (x y : ℕ). free_slot_of start (covers g) g.m 8 x y (nth slots)) (sym e) t in
      let low = free-below g.m g.n start (covers g) (grid-starts g) 8 f (nth slots) few (subst (λ (x : ℕ). x < g.n) (sym e) lt) (deep sh (start f) (subst (λ (x : ℕ). x < g.n) (sym e) lt)) in
      let low-b : b < 8 = subst (λ (x : ℕ). x < 8) (sym is) low in
      let apart : (x : ℕ) → x < g.m → T (covers g (start f) x) → turn_of start x < turn_of start f → nth slots x ≡ b → ⊥ =
      λ x l v q s. free-apart g.m g.n start (covers g) (grid-starts g) 8 f (nth slots) low x l v q (s ∙ is) in
      let more = given-more g.m g.n start (covers g) (grid-starts g) 8 f b (nth slots) (omega arith) few low-b apart (given-at (c * 256 + f) (turn_of start f) (nth slots) t h.given) in
      let inside : f < length slots = let z = h.size in omega arith in
      record {
        size = length-set slots f b ∙ h.size;
        low = set-low slots f b inside h.low low-b;
        given = given-same (c * 256 + (f + 1)) (with_value f b (nth slots)) (nth (set slots f b)) (λ x. sym (set_is slots f b x inside))
            (given-at (turn_of start f + 1) (c * 256 + (f + 1)) (with_value f b (nth slots)) (next (turn_of start f) t) more);
      }
    where
      next : (z : ℕ) → c * 256 + f ≡ z → z + 1 ≡ c * 256 + (f + 1)
      next z q = omega arith

  -- not the fragment's turn
  pub pass : (slots : List ℕ) (c f : ℕ) → f < g.m → (start f ≡ c → ⊥) → Granted g (c * 256 + f) slots → Granted g (c * 256 + (f + 1)) slots
  pass slots c f few ne h = record {
    size = h.size;
    low = h.low;
    given = given-at (c * 256 + f + 1) (c * 256 + (f + 1)) (nth slots) (omega arith)
        (given-skip g.m g.n start (covers g) (grid-starts g) 8 (c * 256 + f) (nth slots) (λ x l q. nobody x l q) h.given);
  }
    where
      same-x : (x s : ℕ) → x < g.m → s * 256 + x ≡ c * 256 + f → x ≡ f
      same-x x s l q = omega arith

      same_s : (x s : ℕ) → x < g.m → s * 256 + x ≡ c * 256 + f → s ≡ c
      same_s x s l q = omega arith

      nobody : (x : ℕ) → x < g.m → turn_of start x ≡ c * 256 + f → ⊥
      nobody x l q = ne (ap start (sym (same-x x (start x) l q)) ∙ same_s x (start x) l q)

  pub column-over : (slots : List ℕ) (c f : ℕ) → f ≡ g.m → Granted g (c * 256 + f) slots → Granted g ((c + 1) * 256 + 0) slots
  column-over slots c f e h = record {
    size = h.size;
    low = h.low;
    given = given-next g.m g.n start (covers g) (grid-starts g) 8 c (nth slots) (omega arith)
        (given-at (c * 256 + f) (c * 256 + g.m) (nth slots) (ap (λ (x : ℕ). c * 256 + x) e) h.given);
  }

  pub none-granted : (slots : List ℕ) → length slots ≡ 128 → ((i : ℕ) → get_or slots i 0 ≡ 0) → Granted g (0 * 256 + 0) slots
  none-granted slots size z = record {
    size = size;
    low = λ i. subst (λ (y : ℕ). y < 8) (sym (z i)) (omega arith);
    given = given-none g.m g.n start (covers g) (grid-starts g) 8 (nth slots);
  }

  pub all-granted : (slots : List ℕ) (c : ℕ) → c ≡ g.n → Granted g (c * 256 + 0) slots → Slotted g slots
  all-granted slots c e h = record {
    size = h.size;
    low = h.low;
    differ = given-apart g.m g.n start (covers g) (grid-starts g) 8 (nth slots) (omega arith)
        (given-at (c * 256 + 0) (g.n * 256 + 0) (nth slots) (ap (λ (x : ℕ). x * 256 + 0) e) h.given);
  }

-- ---- weights beside the cells change nothing of where the fragments lie

module _ (m n : ℕ) (cells weights : List ℕ) where
  pub spanned-weighted : {spans : List Span} → Spanned (matrix_grid m n cells) spans → Spanned (weighted_grid m n cells weights) spans
  unfolding matrix_grid weighted_grid first_column end_column_of
  spanned-weighted sp = record { size = sp.size; begins = sp.begins; stops = sp.stops }

  pub shallow-weighted : NoneDeep (matrix_grid m n cells) → NoneDeep (weighted_grid m n cells weights)
  unfolding matrix_grid weighted_grid coverage stretch_covers
  shallow-weighted sh = record { shallow = sh.shallow }

  pub slotted-weighted : {slots : List ℕ} → Slotted (matrix_grid m n cells) slots → Slotted (weighted_grid m n cells weights) slots
  unfolding matrix_grid weighted_grid first_column end_column_of covers
  slotted-weighted sl = record { size = sl.size; low = sl.low; differ = record { apart = sl.differ.apart } }
