-- What a mask costs at the prices of a column, slot by slot.
-- Assumes nothing.
use Rattle.std.specs.Prelude.{if◌then◌else◌}
use mathlib.Core.Path.{◌≡◌, refl, ap₂, ◌∙◌}
use mathlib.Core.List.{List}
use Prim.Native.Nat.{ℕ, zero, suc, ◌+◌, ◌*◌, ◌≤◌, zero-le}
use native.Mathlib.Numerals.{add-one}
use native.Mathlib.Omega.{arith}
use Rattle.below.specs.Below.{nth, sum_below, ◌=?◌}
use Rattle.below.proofs.BelowLaws.{if-ind}
use Rattle.events.specs.Algorithm.Slots.{digit}
use Rattle.patterns.specs.Algorithm.Patterns.{Prices, slot_share}

pub total-none : (prices : List ℕ) (mask d : ℕ) → 0 ≡ sum_below 0 (slot_share prices mask d)
unfolding sum_below
total-none prices mask d = refl

pub total-more : (prices : List ℕ) (mask d b total x r : ℕ) → total ≡ sum_below b (slot_share prices mask d) → x ≡ (if digit 2 b mask =? d then nth prices b else 0)
    → r ≡ total + x → r ≡ sum_below (b + 1) (slot_share prices mask d)
unfolding slot_share sum_below
total-more prices mask d b total x r et ex er = rw (add-one b) (er ∙ ap₂ ◌+◌ et ex)

-- the total so far has room
total-room : (prices : List ℕ) (mask d : ℕ) → Prices prices → (b : ℕ) → sum_below b (slot_share prices mask d) ≤ b * 60
unfolding sum_below slot_share
total-room prices mask d p zero = zero-le
total-room prices mask d p (suc b) =
    let rest = total-room prices mask d p b in
    let last = if-ind (λ x. x ≤ 60) (digit 2 b mask =? d) (λ t. p.most b) (λ t. zero-le) in
    omega arith

pub total-few : (prices : List ℕ) (mask d b total : ℕ) → Prices prices → total ≡ sum_below b (slot_share prices mask d) → total ≤ b * 60
total-few prices mask d b total p e = let h = total-room prices mask d p b in omega arith
