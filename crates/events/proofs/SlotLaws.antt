-- A table with an entry for each side pattern of the slots, event by event: a column is charged, a fragment enters, in place.
-- Assumes nothing.
use mathlib.Core.Path.{◌≡◌, refl, sym, ap, subst, ◌∙◌}
use mathlib.Core.Bool.{Bool}
use mathlib.Core.List.{List, [], ◌∷◌}
use Prim.Native.Nat.{ℕ, zero, suc, ◌+◌, ◌*◌, ◌-◌, ◌^◌, ◌/◌, ◌%◌, ◌≤◌, ◌<◌, zero-le}
use native.Mathlib.Nat.{add-mul, suc-mul, zero-div, zero-mod}
use native.Mathlib.Omega.{arith}
use lib.Dec.{T}
use Rattle.ranks.specs.Algorithm.Tables.{Sweep}
use Rattle.events.specs.Algorithm.Events.{Event, enter, charge, least_to, with_value, least_event_weight, all_first, events, part_of}
use Rattle.events.specs.Algorithm.Slots.{digit, with_digit, sides_at, entered, HoldsEvents, Apart}
use Rattle.events.proofs.LeastLaws.{least_to-ext, value_same, value-other, each}
use Rattle.events.proofs.EventLaws.{Live, Ordered, Local, least-local}
use Rattle.events.proofs.ColumnLaws.{Starts, events-ordered, live-from, live-column}
use Rattle.events.proofs.DigitLaws.{power, mask-parts, set_same, set_twice, set_other, set_below, set-add, set-sub}

module _ (k : ℕ) (some : 0 < k) where
  -- ---- the sides of a mask

  sides-same : (slot : ℕ → ℕ) (f d mask : ℕ) → d < k → sides_at k slot (with_digit k (slot f) d mask) f ≡ suc d
  unfolding sides_at
  sides-same slot f d mask lt = ap suc (set_same k some (slot f) d mask lt)

  sides-other : (slot : ℕ → ℕ) (f d mask x : ℕ) → d < k → (slot x ≡ slot f → ⊥) → sides_at k slot (with_digit k (slot f) d mask) x ≡ sides_at k slot mask x
  unfolding sides_at
  sides-other slot f d mask x lt ne = ap suc (set_other k some (slot f) d mask (slot x) lt ne)

  sides-none : (slot : ℕ → ℕ) (x : ℕ) → sides_at k slot 0 x ≡ 1
  unfolding sides_at
  sides-none slot x = ap (λ (y : ℕ). suc (y % k)) (zero-div (k ^ slot x)) ∙ ap suc (zero-mod k)

  -- ---- a fragment enters, in place: from the lowest mask up

  module _ (b : ℕ) (on_side : ℕ → ℕ) where
    -- at digit 0 the entries that are read stand at this mask and above it, and are as they were
    pub turn-clear : {old now : ℕ → ℕ} {mask : ℕ} → Sweep (entered k b on_side old) old now 0 mask → digit k b mask ≡ 0
        → least_to (k - 1) (λ d. on_side (suc d) + now (mask + d * k ^ b)) ≡ entered k b on_side old mask
    unfolding entered
    turn-clear {old} {now} {mask} s e =
        least_to-ext (k - 1) _ _ (λ d le. ap (λ (x : ℕ). on_side (suc d) + x) (s.rest (mask + d * k ^ b) (λ lo hi. omega arith) ∙ ap old (sym (set-add k some b d mask e))))

    -- at another digit the entry is that of digit 0, which was made before
    entered-set : (v : ℕ → ℕ) (mask : ℕ) → entered k b on_side v mask ≡ entered k b on_side v (mask - digit k b mask * k ^ b)
    unfolding entered
    entered-set v mask =
        least_to-ext (k - 1) _ _ (λ d le. ap (λ (x : ℕ). on_side (suc d) + v x) (sym (set_twice k some b d 0 mask some) ∙ ap (with_digit k b d) (set-sub k some b mask)))

    pub turn-set : {old now : ℕ → ℕ} {mask : ℕ} → Sweep (entered k b on_side old) old now 0 mask → (digit k b mask ≡ 0 → ⊥)
        → now (mask - digit k b mask * k ^ b) ≡ entered k b on_side old mask
    turn-set {old} {now} {mask} s ne =
        let le : digit k b mask * k ^ b ≤ mask = fits in
        let one : k ^ b ≤ digit k b mask * k ^ b = more (digit k b mask) ne in
        let pos = power k some b in
        s.done (mask - digit k b mask * k ^ b) zero-le (omega arith) ∙ sym (entered-set old mask)
      where
        more : (e : ℕ) → (e ≡ 0 → ⊥) → k ^ b ≤ e * k ^ b
        more zero ne = absurd (ne refl)
        more (suc e) ne = let q = suc-mul e (k ^ b) in omega arith

        fits : digit k b mask * k ^ b ≤ mask
        fits =
            let p = mask-parts k some b mask in
            let split = add-mul (mask / k ^ b / k * k) (digit k b mask) (k ^ b) in
            omega arith

  -- ---- what the table holds

  module _ (on_side : ℕ → ℕ → ℕ) (at_column : ℕ → (ℕ → ℕ) → ℕ) (slot : ℕ → ℕ) (w : ℕ) where
    pub holds-none : (v : ℕ → ℕ) → ((mask : ℕ) → mask < k ^ w → v mask ≡ 0) → HoldsEvents k on_side at_column slot w [] v
    unfolding least_event_weight
    holds-none v h = record { holds = h }

    pub holds-charge : (c : ℕ) (es : List Event) (v u : ℕ → ℕ) → HoldsEvents k on_side at_column slot w es v
        → ((mask : ℕ) → mask < k ^ w → u mask ≡ at_column c (sides_at k slot mask) + v mask) → HoldsEvents k on_side at_column slot w (charge c ∷ es) u
    unfolding least_event_weight
    holds-charge c es v u h step = record { holds = λ mask lt. step mask lt ∙ ap (λ (x : ℕ). at_column c (sides_at k slot mask) + x) (h.holds mask lt) }

    module _ (n : ℕ) (cover : ℕ → ℕ → Bool) (looks : Local n cover at_column) where
      pub holds-enter : (f : ℕ) (es : List Event) (v u : ℕ → ℕ) → Ordered cover n es → slot f < w
          → ((x : ℕ) → Live cover x es → (x ≡ f → ⊥) → slot x ≡ slot f → ⊥) → HoldsEvents k on_side at_column slot w es v
          → ((mask : ℕ) → mask < k ^ w → u mask ≡ entered k (slot f) (on_side f) v mask) → HoldsEvents k on_side at_column slot w (enter f ∷ es) u
      unfolding least_event_weight entered
      holds-enter f es v u o fits apart h step = record {
        holds = λ mask lt. step mask lt ∙ least_to-ext (k - 1) _ _ (λ d le.
            let few : d < k = omega arith in
            ap (λ (x : ℕ). on_side f (suc d) + x)
            (h.holds (with_digit k (slot f) d mask) (set_below k some w (slot f) d mask fits few lt)
            ∙ least-local k some on_side at_column n cover looks es o (sides_at k slot (with_digit k (slot f) d mask)) (with_value f (suc d) (sides_at k slot mask))
            (each (λ x. Live cover x es → sides_at k slot (with_digit k (slot f) d mask) x ≡ with_value f (suc d) (sides_at k slot mask) x) f
            (λ l. sides-same slot f d mask few ∙ sym (value_same f (suc d) (sides_at k slot mask)))
            (λ x ne l. sides-other slot f d mask x few (apart x l ne) ∙ sym (value-other f (suc d) (sides_at k slot mask) x ne)))));
      }

      -- after all the events the entry of mask 0 is the least weight of all
      pub holds-end : (m : ℕ) (start : ℕ → ℕ) → Starts m n start cover → (v : ℕ → ℕ) → HoldsEvents k on_side at_column slot w (events start m n) v
          → v 0 ≡ least_event_weight k on_side at_column (events start m n) all_first
      holds-end m start st v h =
          h.holds 0 (power k some w)
          ∙ least-local k some on_side at_column n cover looks (events start m n) (events-ordered m n start cover st) (sides_at k slot 0) all_first (λ x l. sides-none slot x)

-- a fragment that enters has another slot than the live ones
pub enter-apart : (m n : ℕ) (start : ℕ → ℕ) (cover : ℕ → ℕ → Bool) → Starts m n start cover → (slot : ℕ → ℕ) → Apart n cover slot
    → (c q j f : ℕ) → c + suc q ≤ n → f < m → start f ≡ c → (x : ℕ) → Live cover x (part_of start m c (suc f) j q) → (x ≡ f → ⊥) → slot x ≡ slot f → ⊥
enter-apart m n start cover st slot differ c q j f fits few e x l ne =
    let o = live-column m n start cover st q c x fits (live-from m n start cover st q (suc c) x (omega arith)) j (suc f) l in
    let here : T (cover c f) = subst (λ (y : ℕ). T (cover y f)) e (st.at f few (omega arith)) in
    differ.apart c x f (omega arith) o.covers here ne
