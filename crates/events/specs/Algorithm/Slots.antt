-- Slots for the fragments that cover a column, and the side patterns of the slots as digits of a mask.
-- Assumes nothing.
use Rattle.std.specs.Prelude.{ℕ, zero, suc, ◌+◌, ◌*◌, ◌-◌, ◌^◌, ◌/◌, ◌%◌, ◌<◌, ◌≡◌, Bool, List, T, if◌then◌else◌}
use Rattle.below.specs.Below.{any_below, first_below, ◌=?◌, ◌<?◌, ◌and◌, isnt}
use Rattle.events.specs.Algorithm.Events.{Event, least_to, least_event_weight}

-- digit b of a mask to the base k
abbrev pub digit : ℕ → ℕ → ℕ → ℕ
digit k b mask = mask / k ^ b % k

-- the mask with another digit b
unfoldable pub with_digit : ℕ → ℕ → ℕ → ℕ → ℕ
with_digit k b d mask = (mask / k ^ b / k * k + d) * k ^ b + mask % k ^ b

-- the sides that a mask stands for: side 1 where the fragment's slot has digit 0
unfoldable pub sides_at : ℕ → (ℕ → ℕ) → ℕ → ℕ → ℕ
sides_at k slot mask i = suc (digit k (slot i) mask)

-- what a table becomes where a fragment enters at slot b: the least over its sides, whatever digit stood in the slot
unfoldable pub entered : ℕ → ℕ → (ℕ → ℕ) → (ℕ → ℕ) → ℕ → ℕ
entered k b on_side v mask = least_to (k - 1) (λ d. on_side (suc d) + v (with_digit k b d mask))

-- the table v holds the least weight over the events, at the sides of every mask of w slots
pub record HoldsEvents (k : ℕ) (on_side : ℕ → ℕ → ℕ) (at_column : ℕ → (ℕ → ℕ) → ℕ) (slot : ℕ → ℕ) (w : ℕ) (es : List Event) (v : ℕ → ℕ) : Type 0 where
  pub holds : (mask : ℕ) → mask < k ^ w → v mask ≡ least_event_weight k on_side at_column es (sides_at k slot mask)

-- two fragments that cover one of n columns have different slots
pub record Apart (n : ℕ) (cover : ℕ → ℕ → Bool) (slot : ℕ → ℕ) : Type 0 where
  pub apart : (c x y : ℕ) → c < n → T (cover c x) → T (cover c y) → (x ≡ y → ⊥) → slot x ≡ slot y → ⊥

-- when a fragment enters: by its start, and then by its position below 256
abbrev pub turn_of : (ℕ → ℕ) → ℕ → ℕ
turn_of start x = start x * 256 + x

-- fragment x covers the column and entered before the turn
unfoldable pub taken : (ℕ → ℕ) → (ℕ → ℕ → Bool) → ℕ → ℕ → ℕ → Bool
taken start cover c turn x = cover c x and turn_of start x <? turn

-- slot b is used by such a fragment
unfoldable pub used : (ℕ → ℕ) → (ℕ → ℕ → Bool) → ℕ → ℕ → ℕ → (ℕ → ℕ) → ℕ → Bool
used start cover m c turn slot b = any_below m (λ x. taken start cover c turn x and slot x =? b)

-- the lowest slot below w that is free, and w where none is
unfoldable pub free_slot_of : (ℕ → ℕ) → (ℕ → ℕ → Bool) → ℕ → ℕ → ℕ → ℕ → (ℕ → ℕ) → ℕ
free_slot_of start cover m w c turn slot = first_below w (λ b. isnt (used start cover m c turn slot b))

-- the fragments that entered before the turn have slots below w, which differ where two cover a column
pub record Given (start : ℕ → ℕ) (cover : ℕ → ℕ → Bool) (m n w turn : ℕ) (slot : ℕ → ℕ) : Type 0 where
  pub fits : (x : ℕ) → x < m → turn_of start x < turn → slot x < w
  pub apart : (d x y : ℕ) → d < n → T (cover d x) → T (cover d y) → (x ≡ y → ⊥) → turn_of start x < turn → turn_of start y < turn → slot x ≡ slot y → ⊥

-- slot by slot, what the fragment there says, of the first m fragments and those that cover; 0 at an empty slot
unfoldable pub gathered : (ℕ → Bool) → (ℕ → ℕ) → (ℕ → ℕ) → ℕ → ℕ → ℕ
gathered covering slot says zero b = 0
gathered covering slot says (suc m) b = if covering m and slot m =? b then says m else gathered covering slot says m b
