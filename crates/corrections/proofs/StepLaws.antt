-- The table of weights, event by event, from the last to the first.
-- Assumes nothing.
use mathlib.Core.Path.{◌≡◌, sym, ap, subst, ◌∙◌}
use mathlib.Core.List.{List, ◌∷◌}
use Prim.Native.Nat.{ℕ, suc, ◌+◌, ◌*◌, ◌-◌, ◌≤◌, ◌<◌, zero-le}
use native.Mathlib.Decide.{ℕ_discrete}
use native.Mathlib.Numerals.{add-one}
use native.Mathlib.Omega.{arith}
use Rattle.below.specs.Below.{◌=?◌, nth}
use Rattle.below.proofs.BelowLaws.{if-true, if-false, eq-=?, ne-isnt}
use Rattle.conflicts.specs.Grid.{Grid}
use Rattle.ranks.specs.Algorithm.Weight.{top, place, weight}
use Rattle.ranks.specs.Algorithm.Tables.{Sweep}
use Rattle.ranks.proofs.WeightLaws.{places-top}
use Rattle.events.specs.Algorithm.Events.{enter, least_event_weight, all_first, entering, events_from, events, part_of}
use Rattle.events.specs.Algorithm.Weights.{side_weight, column_weight}
use Rattle.events.specs.Algorithm.Slots.{sides_at, entered}
use Rattle.events.proofs.EventLaws.{Absent, Ordered}
use Rattle.events.proofs.ColumnLaws.{ordered-from, ordered-column}
use Rattle.events.proofs.SlotLaws.{holds-none, holds-charge, holds-enter, holds-end, enter-apart}
use Rattle.events.proofs.ShapeLaws.{shaped, few-from, few-part, charges-from, charges-part, places-fit}
use Rattle.conflicts.specs.Served.{NoneDeep}
use Rattle.slots.specs.Algorithm.Columns.{first_column, covers}
use Rattle.conflicts.specs.Corrections.{column_cost}
use Rattle.slots.specs.declared.spans.Span.{Span}
use Rattle.slots.specs.Algorithm.Spans.{span_at, Spanned, Slotted}
use Rattle.corrections.specs.Algorithm.Sweep.{Gathered, EntersIf, HoldsAll}
use Rattle.patterns.specs.Algorithm.Patterns.{slot_cost, PatternsRoom}
use Rattle.slots.proofs.CoverLaws.{grid-starts, weight-local, cost-bound}
use Rattle.corrections.proofs.SlotCostLaws.{slot-cost-is}

module _ (g : Grid) where
  abbrev start : ℕ → ℕ
  start = first_column g

  -- ---- the events of a column, from fragment f on

  ordered : (c f j q : ℕ) → c + suc q ≤ g.n → Ordered (covers g) g.n (part_of start g.m c f j q)
  ordered c f j q le =
      ordered-column g.m g.n start (covers g) (grid-starts g) c q (omega arith) (ordered-from g.m g.n start (covers g) (grid-starts g) q (suc c) (omega arith)) j f

  part-yes : (c f j q : ℕ) → start f ≡ c → part_of start g.m c f (suc j) q ≡ enter f ∷ part_of start g.m c (suc f) j q
  unfolding entering
  part-yes c f j q e = if-true (start f =? c) (enter f ∷ part_of start g.m c (suc f) j q) (part_of start g.m c (suc f) j q) (eq-=? (start f) c e)

  part_no : (c f j q : ℕ) → (start f ≡ c → ⊥) → part_of start g.m c f (suc j) q ≡ part_of start g.m c (suc f) j q
  unfolding entering
  part_no c f j q ne = if-false (start f =? c) (enter f ∷ part_of start g.m c (suc f) j q) (part_of start g.m c (suc f) j q) (ne-isnt (start f) c ne)

  absent : (c f j q : ℕ) → c + suc q ≤ g.n → start f ≡ c → Absent f (part_of start g.m c (suc f) j q)
  unfolding Ordered
  absent c f j q le e = first (subst (Ordered (covers g) g.n) (part-yes c f j q e) (ordered c f (suc j) q le))
    where
      first : Ordered (covers g) g.n (enter f ∷ part_of start g.m c (suc f) j q) → Absent f (part_of start g.m c (suc f) j q)
      first o = o.0

  module _ (slots : List ℕ) (light : (i : ℕ) → i < g.m → g.weight i ≤ 60) (shallow : NoneDeep g) (small : g.m ≤ 128) (columns : g.n ≤ 128) where
    -- ---- room

    few-cost : {cost count : ℕ} → cost ≤ 240 * count → count ≤ 128 → cost ≤ 60000
    few-cost a b = omega arith

    -- a column can be charged
    pub column-room : (c q : ℕ) (v : ℕ → ℕ) → c + q ≤ g.n → HoldsAll g slots (events_from start g.m c q) v → PatternsRoom 0 0 v
    unfolding weight
    column-room c q v fits h = record {
      room = λ mask lo lt.
          let s = shaped g.m 240 g.n (covers g) (column_cost 2 g) (λ c s lt. cost-bound g light c s lt shallow) (events_from start g.m c q)
          (ordered-from g.m g.n start (covers g) (grid-starts g) q c fits) (few-from start g.m q c) (sides_at 2 (nth slots) mask) in
          let e = charges-from start g.m q c in
          record {
            cost = s.cost;
            places = _;
            is = h.holds mask lt ∙ s.is;
            few = few-cost s.few (omega arith);
            low = let t = places-top g.m s.set small in omega arith;
          };
    }

    -- fragment f can enter
    pub part_room : (c q f : ℕ) (v : ℕ → ℕ) → c + suc q ≤ g.n → f < g.m → start f ≡ c → HoldsAll g slots (part_of start g.m c (f + 1) (g.m - (f + 1)) q) v → PatternsRoom (place f) 0 v
    unfolding weight
    part_room c q f v fits lt e h = record {
      room = λ mask lo ml.
          let s = shaped g.m 240 g.n (covers g) (column_cost 2 g) (λ c s lt. cost-bound g light c s lt shallow) (part_of start g.m c (f + 1) (g.m - (f + 1)) q)
          (ordered c (f + 1) (g.m - (f + 1)) q fits) (few-part start g.m c (f + 1) (g.m - (f + 1)) q (omega arith)) (sides_at 2 (nth slots) mask) in
          let k = charges-part start g.m q c (g.m - (f + 1)) (f + 1) in
          let out = s.free f (subst (λ (x : ℕ). Absent f (part_of start g.m c x (g.m - (f + 1)) q)) (sym (add-one f)) (absent c f (g.m - (f + 1)) q fits e)) in
          record {
            cost = s.cost;
            places = _;
            is = h.holds mask ml ∙ s.is;
            few = few-cost s.few (omega arith);
            low = places-fit g.m s.set f small lt out;
          };
    }

  module _ (slots : List ℕ) (sl : Slotted g slots) where
    -- ---- steps

    pub step-charge : (a b : List ℕ) (c q : ℕ) (v u : ℕ → ℕ) → c < g.n → Gathered g slots c 1 g.m a → Gathered g slots c 2 g.m b → HoldsAll g slots (events_from start g.m (c + 1) q) v
        → Sweep (λ mask. slot_cost a b mask * top + v mask) v u 0 256 → HoldsAll g slots (part_of start g.m c g.m (g.m - g.m) q) u
    unfolding entering
    step-charge a b c q v u lt ga gb h sweep =
        let e : g.m - g.m ≡ 0 = omega arith in
        rw e (holds-charge 2 (omega arith) side_weight (column_weight (column_cost 2 g)) (nth slots) 8 c (events_from start g.m (suc c) q) v u
        (subst (λ (x : ℕ). HoldsAll g slots (events_from start g.m x q) v) (add-one c) h)
        (λ mask ml. sweep.done mask zero-le ml ∙ ap (λ (x : ℕ). x * top + v mask) (slot-cost-is g slots c mask lt sl a b ga gb)))

    pub step_skip : (c q f : ℕ) (v : ℕ → ℕ) → f < g.m → (start f ≡ c → ⊥) → HoldsAll g slots (part_of start g.m c (f + 1) (g.m - (f + 1)) q) v → HoldsAll g slots (part_of start g.m c f (g.m - f) q) v
    step_skip c q f v lt ne h =
        let e : g.m - f ≡ suc (g.m - (f + 1)) = omega arith in
        rw (e, part_no c f (g.m - (f + 1)) q ne) (subst (λ (x : ℕ). HoldsAll g slots (part_of start g.m c x (g.m - (f + 1)) q) v) (add-one f) h)

    pub step-enter : (c q f : ℕ) (v u : ℕ → ℕ) → c + suc q ≤ g.n → f < g.m → start f ≡ c → HoldsAll g slots (part_of start g.m c (f + 1) (g.m - (f + 1)) q) v
        → Sweep (entered 2 (nth slots f) (side_weight f) v) v u 0 256 → HoldsAll g slots (part_of start g.m c f (g.m - f) q) u
    step-enter c q f v u fits lt e h sweep =
        let k : g.m - f ≡ suc (g.m - (f + 1)) = omega arith in
        rw (k, part-yes c f (g.m - (f + 1)) q e)
        (holds-enter 2 (omega arith) side_weight (column_weight (column_cost 2 g)) (nth slots) 8 g.n (covers g) (weight-local g 2) f (part_of start g.m c (suc f) (g.m - (f + 1)) q) v u
        (ordered c (suc f) (g.m - (f + 1)) q fits) (sl.low f)
        (enter-apart g.m g.n start (covers g) (grid-starts g) (nth slots) sl.differ c q (g.m - (f + 1)) f fits lt e)
        (subst (λ (x : ℕ). HoldsAll g slots (part_of start g.m c x (g.m - (f + 1)) q) v) (add-one f) h) (λ mask ml. sweep.done mask zero-le ml))

    -- the events of fragment f on, as a counter has them that steps down to f - 1
    pub part-next : (c q f : ℕ) (v : ℕ → ℕ) → 0 < f → HoldsAll g slots (part_of start g.m c f (g.m - f) q) v → HoldsAll g slots (part_of start g.m c (f - 1 + 1) (g.m - (f - 1 + 1)) q) v
    part-next c q f v some h = let e : f ≡ f - 1 + 1 = omega arith in subst (λ (x : ℕ). HoldsAll g slots (part_of start g.m c x (g.m - x) q) v) e h

    -- fragment f, by what enter_if left
    pub step-if : (spans : List Span) → Spanned g spans → (c q f : ℕ) (v u : ℕ → ℕ) → c + suc q ≤ g.n → f < g.m → EntersIf (span_at spans f).start (nth slots f) c f v u
        → HoldsAll g slots (part_of start g.m c (f + 1) (g.m - (f + 1)) q) v → HoldsAll g slots (part_of start g.m c f (g.m - f) q) u
    step-if spans sp c q f v u fits lt left h =
        let at = sp.begins f lt in
        elim (ℕ_discrete (span_at spans f).start c) [
          | yes e ↦ step-enter c q f v u fits lt (sym at ∙ e) h (left.enters e)
          | no ne ↦ subst (HoldsAll g slots (part_of start g.m c f (g.m - f) q)) (sym (left.passes ne)) (step_skip c q f v lt (λ e. ne (at ∙ e)) h)
        ]

    -- a whole column
    pub step-column : (c f : ℕ) (v : ℕ → ℕ) → f ≡ 0 → c < g.n → HoldsAll g slots (part_of start g.m c f (g.m - f) (g.n - (c + 1))) v → HoldsAll g slots (events_from start g.m c (g.n - c)) v
    unfolding events_from
    step-column c f v z lt h =
        let e : g.n - c ≡ suc (g.n - (c + 1)) = omega arith in
        let h' = subst (λ (x : ℕ). HoldsAll g slots (part_of start g.m c x (g.m - x) (g.n - (c + 1))) v) z h in
        let k : g.m - 0 ≡ g.m = omega arith in
        rw e (subst (λ (x : ℕ). HoldsAll g slots (part_of start g.m c 0 x (g.n - (c + 1))) v) k h')

    -- no column yet, and all of them
    pub holds-start : (v : ℕ → ℕ) → ((mask : ℕ) → v mask ≡ 0) → HoldsAll g slots (events_from start g.m g.n (g.n - g.n)) v
    unfolding events_from
    holds-start v h =
        let e : g.n - g.n ≡ 0 = omega arith in
        rw e (holds-none 2 (omega arith) side_weight (column_weight (column_cost 2 g)) (nth slots) 8 v (λ mask lt. h mask))

    pub holds-all : (c : ℕ) (v : ℕ → ℕ) → c ≡ 0 → HoldsAll g slots (events_from start g.m c (g.n - c)) v → HoldsAll g slots (events start g.m g.n) v
    holds-all c v e h =
        let k : g.n - 0 ≡ g.n = omega arith in
        subst (λ (x : ℕ). HoldsAll g slots (events_from start g.m 0 x) v) k (subst (λ (x : ℕ). HoldsAll g slots (events_from start g.m x (g.n - x)) v) e h)

    pub holds-least : (v : ℕ → ℕ) → HoldsAll g slots (events start g.m g.n) v → v 0 ≡ least_event_weight 2 side_weight (column_weight (column_cost 2 g)) (events start g.m g.n) all_first
    holds-least v h = holds-end 2 (omega arith) side_weight (column_weight (column_cost 2 g)) (nth slots) 8 g.n (covers g) (weight-local g 2) g.m start (grid-starts g) v h
