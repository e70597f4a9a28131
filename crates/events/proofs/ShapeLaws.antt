-- A least weight over the events, with two sides: a cost, and a set of fragments that enter. So there is room for one fragment more.
-- Assumes nothing.
use Rattle.std.specs.Prelude.{if◌then◌else◌}
use mathlib.Core.Path.{◌≡◌, refl, sym, ap, subst, ◌∙◌}
use mathlib.Core.Bool.{Bool, false, true}
use mathlib.Core.List.{List, [], ◌∷◌}
use Prim.Native.Nat.{ℕ, zero, suc, ◌+◌, ◌*◌, ◌≤◌, ◌<◌, zero-le}
use native.Mathlib.Nat.{add-mul, mul-suc}
use native.Mathlib.Omega.{arith}
use Rattle.below.specs.Below.{◌=?◌}
use Rattle.below.proofs.BelowLaws.{if-ind, if-true, if-false, =?-refl, ne-isnt, sum-zero}
use Rattle.ranks.specs.Algorithm.Weight.{top, place, places_of, weight}
use Rattle.ranks.proofs.WeightLaws.{places-top}
use Rattle.events.specs.Algorithm.Events.{Event, enter, charge, with_value, least_event_weight, entering, events_from, part_of}
use Rattle.events.specs.Algorithm.Weights.{side_weight, column_weight}
use Rattle.events.proofs.LeastLaws.{least_to-at}
use Rattle.events.proofs.EventLaws.{Absent, Ordered}
use Rattle.events.proofs.TotalLaws.{sum_more}

-- ---- sets of fragments

-- a set with one fragment more, or not
abbrev with_fragment_in : ℕ → Bool → (ℕ → Bool) → ℕ → Bool
with_fragment_in f b set i = if i =? f then b else set i

set_here : (f : ℕ) (b : Bool) (set : ℕ → Bool) → with_fragment_in f b set f ≡ b
set_here f b set = if-true (f =? f) b (set f) (=?-refl f)

set_there : (f : ℕ) (b : Bool) (set : ℕ → Bool) (i : ℕ) → (i ≡ f → ⊥) → with_fragment_in f b set i ≡ set i
set_there f b set i ne = if-false (i =? f) b (set i) (ne-isnt i f ne)

-- the places of a set with one fragment more
places-with : (m : ℕ) (set : ℕ → Bool) (f : ℕ) → f < m → set f ≡ false → places_of m (with_fragment_in f true set) ≡ places_of m set + place f
unfolding places_of
places-with m set f lt e =
    sum_more m (λ p. if set p then place p else 0) (λ p. if with_fragment_in f true set p then place p else 0) f (place f) lt
    (ap (λ (b : Bool). if b then place f else 0) (set_here f true set) ∙ sym (ap (λ (b : Bool). (if b then place f else 0) + place f) e ∙ omega arith))
    (λ i ne. ap (λ (b : Bool). if b then place i else 0) (set_there f true set i ne))

-- a fragment that is not in the set has room
pub places-fit : (m : ℕ) (set : ℕ → Bool) (f : ℕ) → m ≤ 128 → f < m → set f ≡ false → places_of m set + place f < top
places-fit m set f small lt e = subst (λ (x : ℕ). x < top) (places-with m set f lt e) (places-top m (with_fragment_in f true set) small)

places-none : (m : ℕ) → places_of m (λ i. false) ≡ 0
unfolding places_of
places-none m = sum-zero m

-- ---- events

-- how many columns are charged
unfoldable pub charges : List Event → ℕ
charges [] = 0
charges (enter f ∷ es) = charges es
charges (charge c ∷ es) = suc (charges es)

-- only the first m fragments enter
unfoldable pub Few : ℕ → List Event → Type 0
Few m [] = Unit {0}
Few m (enter f ∷ es) = (f < m) × Few m es
Few m (charge c ∷ es) = Few m es

-- a weight of at most cap for each column charged, and of fragments that enter
pub record Shaped (m cap : ℕ) (es : List Event) (v : ℕ) : Type 0 where
  pub cost : ℕ
  pub set : ℕ → Bool
  pub is : v ≡ weight cost m set
  pub few : cost ≤ cap * charges es
  pub free : (f : ℕ) → Absent f es → set f ≡ false

module _ (m cap n : ℕ) (cover : ℕ → ℕ → Bool) (cost : ℕ → (ℕ → ℕ) → ℕ) (bound : (c : ℕ) (s : ℕ → ℕ) → c < n → cost c s ≤ cap) where
  shaped-enter : (f d v : ℕ) (es : List Event) → f < m → d ≤ 1 → Absent f es → Shaped m cap es v → Shaped m cap (enter f ∷ es) (d * place f + v)
  unfolding charges Absent weight
  shaped-enter f zero v es lt le a h = record { cost = h.cost; set = h.set; is = let i = h.is in omega arith; few = h.few; free = λ x ax. h.free x ax.1 }
  shaped-enter f (suc d) v es lt le a h = record {
    cost = h.cost;
    set = with_fragment_in f true h.set;
    is =
        let i = h.is in
        let p = places-with m h.set f lt (h.free f a) in
        let z : d ≡ 0 = omega arith in
        let one : suc d * place f ≡ place f = ap (λ (x : ℕ). suc x * place f) z ∙ omega arith in
        omega arith;
    few = h.few;
    free = λ x ax. set_there f true h.set x ax.0 ∙ h.free x ax.1;
  }

  shaped-charge : (c v : ℕ) (s : ℕ → ℕ) (es : List Event) → c < n → Shaped m cap es v → Shaped m cap (charge c ∷ es) (column_weight cost c s + v)
  unfolding charges Absent weight
  shaped-charge c v s es lt h = record {
    cost = cost c s + h.cost;
    set = h.set;
    is = let i = h.is in let p = add-mul (cost c s) h.cost top in omega arith;
    few = let b = bound c s lt in let l = h.few in let p = mul-suc cap (charges es) in omega arith;
    free = h.free;
  }

  pub shaped : (es : List Event) → Ordered cover n es → Few m es → (s : ℕ → ℕ) → Shaped m cap es (least_event_weight 2 side_weight (column_weight cost) es s)
  unfolding least_event_weight Ordered Few charges weight
  shaped [] o w s = record { cost = 0; set = λ i. false; is = let p = places-none m in omega arith; few = zero-le; free = λ f a. refl }
  shaped (enter f ∷ es) o w s =
      let rest : ℕ → ℕ = λ d. least_event_weight 2 side_weight (column_weight cost) es (with_value f (suc d) s) in
      let r = least_to-at 1 (λ d. side_weight f (suc d) + rest d) in
      let d : ℕ = r.0 in
      let here : d * place f ≡ side_weight f (suc d) = ap (λ (x : ℕ). x * place f) (omega arith) in
      subst (Shaped m cap (enter f ∷ es)) (ap (λ (x : ℕ). x + rest d) here ∙ sym r.2)
      (shaped-enter f d (rest d) es w.0 r.1 o.0 (shaped es o.1 w.1 (with_value f (suc d) s)))
  shaped (charge c ∷ es) o w s = shaped-charge c _ s es o.0 (shaped es o.2 w s)

module _ (start : ℕ → ℕ) (m : ℕ) where
  few-entering : (c : ℕ) (rest : List Event) → Few m rest → (j f : ℕ) → f + j ≤ m → Few m (entering start c f j rest)
  unfolding entering Few
  few-entering c rest h zero f le = h
  few-entering c rest h (suc j) f le =
      let deeper = few-entering c rest h j (suc f) (omega arith) in
      if-ind (λ es. Few m es) (start f =? c) (λ t. (omega arith, deeper)) (λ t. deeper)

  pub few-from : (q c : ℕ) → Few m (events_from start m c q)
  unfolding events_from Few
  few-from zero c = tt
  few-from (suc q) c = few-entering c (charge c ∷ events_from start m (suc c) q) (few-from q (suc c)) m 0 (omega arith)

  pub few-part : (c f j q : ℕ) → f + j ≤ m → Few m (part_of start m c f j q)
  unfolding Few
  few-part c f j q le = few-entering c (charge c ∷ events_from start m (suc c) q) (few-from q (suc c)) j f le

  charges-entering : (c : ℕ) (rest : List Event) (j f : ℕ) → charges (entering start c f j rest) ≡ charges rest
  unfolding entering charges
  charges-entering c rest zero f = refl
  charges-entering c rest (suc j) f =
      let deeper = charges-entering c rest j (suc f) in
      if-ind (λ es. charges es ≡ charges rest) (start f =? c) (λ t. deeper) (λ t. deeper)

  pub charges-from : (q c : ℕ) → charges (events_from start m c q) ≡ q
  unfolding events_from charges
  charges-from zero c = refl
  charges-from (suc q) c = charges-entering c (charge c ∷ events_from start m (suc c) q) m 0 ∙ ap suc (charges-from q (suc c))

  pub charges-part : (q c j f : ℕ) → charges (part_of start m c f j q) ≡ suc q
  unfolding charges
  charges-part q c j f = charges-entering c (charge c ∷ events_from start m (suc c) q) j f ∙ ap suc (charges-from q (suc c))
