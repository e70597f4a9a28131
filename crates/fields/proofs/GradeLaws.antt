-- Every weight lies between 1 and 60, by one test of the table.
-- Assumes nothing.
use mathlib.Core.Path.{◌≡◌}
use mathlib.Core.Bool.{Bool}
use Prim.Native.Nat.{ℕ, ◌≤◌, ◌<◌}
use native.Mathlib.Decide.{dec_lt}
use native.Mathlib.Omega.{arith}
use lib.Dec.{T}
use lib.ListN.{get_or, get_or-eq_default}
use Rattle.below.specs.Below.{◌=?◌, ◌≤?◌, ◌and◌, all_below}
use Rattle.below.proofs.BelowLaws.{left-of, right_of, =?-eq, ≤?-le, all_below-at}
use Rattle.fields.specs.Grades.{weights, weight_of}

-- what is tested of an entry, as the code reads it
sound : ℕ → Bool
sound k = get_or weights k 0 =? weight_of k and (1 ≤? get_or weights k 0 and get_or weights k 0 ≤? 60)

all_sound : T (all_below 16 sound)
unfolding sound weight_of weights ◌=?◌ ◌≤?◌ ◌and◌ all_below
all_sound = tt

pub entry : (k : ℕ) → k < 16 → (get_or weights k 0 ≡ weight_of k) × (1 ≤ get_or weights k 0) × (get_or weights k 0 ≤ 60)
unfolding sound
entry k h =
    let t = all_below-at 16 sound all_sound k h in
    let within = right_of _ _ t in
    (=?-eq _ _ (left-of _ _ t), ≤?-le _ _ (left-of _ _ within), ≤?-le _ _ (right_of _ _ within))

-- a number that is no grade
pub no-grade : (k : ℕ) → 16 ≤ k → weight_of k ≡ 1
unfolding weight_of weights
no-grade k h = get_or-eq_default weights 1 h

-- "no weight is under 1", and none is over 60
pub weight-range : (grade : ℕ) → (1 ≤ weight_of grade) × (weight_of grade ≤ 60)
weight-range grade = elim (dec_lt grade 16) [
  | yes h ↦ let e = entry grade h in let is = e.0 in let low = e.1 in let high = e.2 in (omega arith, omega arith)
  | no h ↦ let is = no-grade grade (omega arith) in (omega arith, omega arith)
]
