-- PatternRoom in the table's weights: for a column's cost, and for a fragment that enters.
-- Assumes nothing.
use mathlib.Core.Path.{◌≡◌, sym, ap, ap₂, subst, ◌∙◌}
use Prim.Native.Nat.{ℕ, suc, ◌+◌, ◌*◌, ◌-◌, ◌^◌, ◌/◌, ◌%◌, ◌≤◌, ◌<◌, min, zero-le}
use native.Mathlib.Nat.{lt_of_lt_of_le, add-mul, zero-mul, zero-add, two-pow-succ, div-eq_of_lt, min-eq_left, min-eq_right}
use native.Mathlib.Decide.{ℕ_discrete, dec_le}
use native.Mathlib.Omega.{arith}
use lib.Pow.{pow_mono, pow_pos}
use Rattle.below.specs.Below.{◌=?◌}
use Rattle.below.proofs.BelowLaws.{if-true, if-false, eq-=?, ne-isnt}
use Rattle.ranks.specs.declared.rank.Rank.{Rank}
use Rattle.ranks.specs.Algorithm.Weight.{top, place}
use Rattle.ranks.specs.Algorithm.Reading.{code, value, SumFits}
use Rattle.ranks.specs.Algorithm.Tables.{Put, Sweep}
use Rattle.ranks.proofs.WordLaws.{code-top, count_of, code_of, one_shl}
use Rattle.events.specs.Algorithm.Events.{least_to}
use Rattle.events.specs.Algorithm.Weights.{side_weight}
use Rattle.events.specs.Algorithm.Slots.{digit, entered}
use Rattle.events.proofs.DigitLaws.{set-add, set_below}
use Rattle.events.proofs.SlotLaws.{turn-clear, turn-set}
use Rattle.patterns.specs.Algorithm.Patterns.{Alone, PatternRoom, PatternsRoom, entered_at}

-- ---- weights

top-positive : 0 < top
unfolding top
top-positive = pow_pos 128

place-top : (f : ℕ) → place f < top
unfolding top
place-top f = lt_of_lt_of_le (two (127 - f) (omega arith)) (pow_mono {i = suc (127 - f)} {j = 128} (omega arith))
  where
    two : (k : ℕ) → k ≤ 127 → 2 ^ k < 2 ^ suc k
    two k h = let p = two-pow-succ k in let q = pow_pos k in omega arith

pub room-less : {p v : ℕ} → PatternRoom p v → PatternRoom 0 v
room-less r = record { cost = r.cost; places = r.places; is = r.is; few = r.few; low = let l = r.low in omega arith }

-- the parts of a rank with room
pub room-parts : (r : Rank) {p v : ℕ} → r.high < 2 ^ 64 → r.low < 2 ^ 64 → value r ≡ v → PatternRoom p v → (r.count ≤ 60000) × (code r + p < top)
room-parts r {p} hh hl e m =
    let q = e ∙ m.is in
    let below : m.places < top = let l = m.low in omega arith in
    let ec = count_of r.count m.cost (code-top hh hl) below q in
    let es = code_of r.count m.cost (code-top hh hl) below q in
    (let f = m.few in omega arith, let l = m.low in omega arith)

-- the parts of a rank whose weight is a count and places
parts-of : (r : Rank) (c p : ℕ) → r.high < 2 ^ 64 → r.low < 2 ^ 64 → value r ≡ c * top + p → p < top → (r.count ≡ c) × (code r ≡ p)
parts-of r c p hh hl e lt = (count_of r.count c (code-top hh hl) lt e, code_of r.count c (code-top hh hl) lt e)

small : {x y : ℕ} → x ≡ 0 → y ≤ 60000 → x + y < 2 ^ 32
small h k = omega arith

room : {x q t : ℕ} (y : ℕ) → x ≡ q → y + q < t → x + y < t
room y h k = omega arith

-- ---- a column is charged

pub charge-fits : (s r : Rank) (x : ℕ) {v : ℕ} → s.high < 2 ^ 64 → s.low < 2 ^ 64 → r.high < 2 ^ 64 → r.low < 2 ^ 64 → value s ≡ x * top → x ≤ 960 → value r ≡ v → PatternRoom 0 v → SumFits s r
charge-fits s r x hs ls hr lr es few er m =
    let a = parts-of s x 0 hs ls (es ∙ omega arith) top-positive in
    let b = room-parts r hr lr er m in
    record { counts = sums a.0 few b.0; codes = room (code r) a.1 b.1 }
  where
    sums : {c y : ℕ} → c ≡ x → x ≤ 960 → y ≤ 60000 → c + y < 2 ^ 32
    sums h k l = omega arith

pub charge-count : (t : Rank) (x : ℕ) {v : ℕ} → t.high < 2 ^ 64 → t.low < 2 ^ 64 → x ≤ 960 → value t ≡ x * top + v → PatternRoom 0 v → t.count < 65536
charge-count t x {v} ht lt few e m =
    let i = m.is in
    let q : value t ≡ (x + m.cost) * top + m.places = e ∙ omega (arith, add-mul x m.cost top) in
    let c = (parts-of t (x + m.cost) m.places ht lt q (let l = m.low in omega arith)).0 in
    let f = m.few in
    omega arith

-- ---- a fragment enters

pub alone_of : (r : Rank) (f : ℕ) → r.high < 2 ^ 64 → r.low < 2 ^ 64 → value r ≡ 0 * top + place f → Alone f r
alone_of r f hh hl e = let p = parts-of r 0 (place f) hh hl e (place-top f) in record { no_cost = p.0; its_place = p.1 }

pub alone-value : (r : Rank) (f : ℕ) → Alone f r → value r ≡ place f
alone-value r f a = ap₂ (λ (x y : ℕ). x * top + y) a.no_cost a.its_place ∙ plain (place f)
  where
    plain : (x : ℕ) → 0 * top + x ≡ x
    plain x = omega arith

pub enter-fits : (s r : Rank) (f : ℕ) {v : ℕ} → r.high < 2 ^ 64 → r.low < 2 ^ 64 → Alone f s → value r ≡ v → PatternRoom (place f) v → SumFits s r
enter-fits s r f hr lr a er m = let b = room-parts r hr lr er m in record { counts = small a.no_cost b.0; codes = room (code r) a.its_place b.1 }

room-min : {p a b : ℕ} → PatternRoom 0 a → PatternRoom p b → PatternRoom 0 (min a (p + b))
room-min {p} {a} {b} r s =
    elim (dec_le a (p + b)) [ yes le ↦ subst (PatternRoom 0) (sym (min-eq_left le)) r | no nle ↦ subst (PatternRoom 0) (sym (min-eq_right {n = p + b} {m = a} (omega arith))) more ]
  where
    more : PatternRoom 0 (p + b)
    more = record { cost = s.cost; places = s.places + p; is = let i = s.is in omega arith; few = s.few; low = let l = s.low in omega arith }

-- a weight with room is put at a place
pub room-put : {old new : ℕ → ℕ} {j v : ℕ} → Put old new j v → PatternsRoom 0 0 old → PatternRoom 0 v → PatternsRoom 0 0 new
room-put {old} {new} {j} p all r = record {
  room = λ mask lo lt. elim (ℕ_discrete mask j) [
    | yes e ↦ subst (λ (i : ℕ). PatternRoom 0 (new i)) (sym e) (subst (PatternRoom 0) (sym p.here) r)
    | no ne ↦ subst (PatternRoom 0) (sym (p.there mask ne)) (all.room mask lo lt)
  ];
}

-- `1 << b`
pub shl : (b : ℕ) → b < 8 → 1 * 2 ^ b % 2 ^ 64 ≡ 2 ^ b
shl b lt = one_shl b (omega arith)

-- a clear digit can be set, and one that is set can be cleared
pub in-range : (b mask : ℕ) → b < 8 → mask < 256 → digit 2 b mask ≡ 0 → mask + 2 ^ b < 256
in-range b mask lt small e =
    let q = set_below 2 (omega arith) 8 b 1 mask lt (omega arith) small in
    let s = set-add 2 (omega arith) b 1 mask e in
    omega arith

pub has-digit : (b mask : ℕ) → (digit 2 b mask ≡ 0 → ⊥) → 2 ^ b ≤ mask
has-digit b mask ne = elim (dec_le (2 ^ b) mask) [ yes le ↦ le | no nle ↦ absurd (ne (ap (λ (x : ℕ). x % 2) (div-eq_of_lt (let q : mask < 2 ^ b = omega arith in q)))) ]

-- the two arms of an entry
pub entered-clear : (b p : ℕ) (v : ℕ → ℕ) (mask : ℕ) → digit 2 b mask ≡ 0 → entered_at b p v mask ≡ min (v mask) (p + v (mask + 2 ^ b))
entered-clear b p v mask e = if-true (digit 2 b mask =? 0) _ _ (eq-=? _ _ e)

pub entered-set : (b p : ℕ) (v : ℕ → ℕ) (mask : ℕ) → (digit 2 b mask ≡ 0 → ⊥) → entered_at b p v mask ≡ v (mask - 2 ^ b)
entered-set b p v mask ne = if-false (digit 2 b mask =? 0) _ _ (ne-isnt _ _ ne)

pub clear_room : (b f mask : ℕ) (v : ℕ → ℕ) → b < 8 → mask < 256 → digit 2 b mask ≡ 0 → PatternsRoom 0 0 v → PatternsRoom (place f) mask v → PatternRoom 0 (min (v mask) (place f + v (mask + 2 ^ b)))
clear_room b f mask v lt small e r s = room-min (r.room mask zero-le small) (s.room (mask + 2 ^ b) (omega arith) (in-range b mask lt small e))

-- in place, the entry is what the table at entry says
two-sides : (f : ℕ) (h : ℕ → ℕ) → least_to 1 (λ d. side_weight f (suc d) + h d) ≡ min (h 0) (place f + h 1)
unfolding least_to
two-sides f h = ap₂ min (ap (λ (x : ℕ). x + h 0) (zero-mul (place f)) ∙ zero-add (h 0)) (ap (λ (x : ℕ). x + h 1) (omega arith))

pub entered-is : (b f : ℕ) {old now : ℕ → ℕ} {mask : ℕ} → Sweep (entered 2 b (side_weight f) old) old now 0 mask → entered_at b (place f) now mask ≡ entered 2 b (side_weight f) old mask
entered-is b f {old} {now} {mask} s = go (ℕ_discrete (digit 2 b mask) 0)
  where
    go : Dec (digit 2 b mask ≡ 0) → entered_at b (place f) now mask ≡ entered 2 b (side_weight f) old mask
    go (yes e) =
        entered-clear b (place f) now mask e
        ∙ ap₂ min (ap now (let q : mask ≡ mask + 0 * 2 ^ b = omega arith in q)) (ap (λ (x : ℕ). place f + now x) (let q : mask + 2 ^ b ≡ mask + 1 * 2 ^ b = omega arith in q))
        ∙ sym (two-sides f (λ d. now (mask + d * 2 ^ b))) ∙ turn-clear 2 (omega arith) b (side_weight f) s e
    go (no ne) =
        entered-set b (place f) now mask ne
        ∙ ap now (let q : mask - 2 ^ b ≡ mask - digit 2 b mask * 2 ^ b = rw (odd (mask / 2 ^ b) ne) (omega arith) in q) ∙ turn-set 2 (omega arith) b (side_weight f) s ne
      where
        odd : (q : ℕ) → (q % 2 ≡ 0 → ⊥) → q % 2 ≡ 1
        odd q ne = omega arith
