-- The columns of a table from left to right as events: a fragment enters, a column is charged. Over any number of classes k and any weights.
-- Assumes nothing.
use Rattle.std.specs.Prelude.{ℕ, zero, suc, ◌+◌, ◌-◌, min, List, [], ◌∷◌, if◌then◌else◌}
use Rattle.below.specs.Below.{◌=?◌}

-- fragment f enters; column c is charged
pub data Event : Type 0 where
  enter charge : ℕ → Event

-- the least of f 0, …, f k
unfoldable pub least_to : ℕ → (ℕ → ℕ) → ℕ
least_to zero f = f 0
least_to (suc k) f = min (least_to k f) (f (suc k))

-- numbers of the fragments, with x for fragment f
unfoldable pub with_value : ℕ → ℕ → (ℕ → ℕ) → ℕ → ℕ
with_value f x values i = if i =? f then x else values i

-- sides 1 to k; what a fragment weighs on a side, and what a column weighs at given sides
module _ (k : ℕ) (on_side : ℕ → ℕ → ℕ) (at_column : ℕ → (ℕ → ℕ) → ℕ) where
  -- the least that the events weigh over the sides of the fragments that enter, from the sides of those that have entered
  unfoldable pub least_event_weight : List Event → (ℕ → ℕ) → ℕ
  least_event_weight [] sides = 0
  least_event_weight (enter f ∷ es) sides = least_to (k - 1) (λ d. on_side f (suc d) + least_event_weight es (with_value f (suc d) sides))
  least_event_weight (charge c ∷ es) sides = at_column c sides + least_event_weight es sides

-- every fragment on side 1
abbrev pub all_first : ℕ → ℕ
all_first i = 1

-- before the other events, those of the j fragments from f on enter that start at column c
unfoldable pub entering : (ℕ → ℕ) → ℕ → ℕ → ℕ → List Event → List Event
entering start c f zero es = es
entering start c f (suc j) es = let r = entering start c (suc f) j es in if start f =? c then enter f ∷ r else r

-- the events of the q columns from c on, of m fragments
unfoldable pub events_from : (ℕ → ℕ) → ℕ → ℕ → ℕ → List Event
events_from start m c zero = []
events_from start m c (suc q) = entering start c 0 m (charge c ∷ events_from start m (suc c) q)

-- the events of n columns and m fragments
abbrev pub events : (ℕ → ℕ) → ℕ → ℕ → List Event
events start m n = events_from start m 0 n

-- the events from those of fragment f at column c on, with j fragments and q columns left
abbrev pub part_of : (ℕ → ℕ) → ℕ → ℕ → ℕ → ℕ → ℕ → List Event
part_of start m c f j q = entering start c f j (charge c ∷ events_from start m (suc c) q)
