-- With two sides, the least weight over the events is that of the first side list of least cost: its code is the set of fragments on side 2, and its count is the cost.
-- For any column cost that looks only at the fragments that cover the column.
-- Assumes nothing.
use Rattle.std.specs.Prelude.{if◌then◌else◌}
use mathlib.Core.Path.{◌≡◌, refl, sym, ap, subst, ◌∙◌}
use mathlib.Core.Bool.{Bool, true, false}
use mathlib.Core.List.{List, [], ◌∷◌, Memᴰ}
use Prim.Native.Nat.{ℕ, zero, suc, ◌+◌, ◌*◌, ◌^◌, ◌-◌, ◌≤◌, ◌<◌}
use native.Mathlib.Nat.{le_trans, le_of_eq, zero-mul, add-mul}
use native.Mathlib.Decide.{ℕ_discrete, dec_lt}
use native.Mathlib.Omega.{arith}
use lib.ListN.{length, get_or}
use lib.Seq.{ext_get_or}
use Rattle.below.specs.Below.{bit, sum_below, tab, ◌=?◌}
use Rattle.below.proofs.BelowLaws.{sum-ext, length-tab, get_or-tab, if-true, if-false, eq-=?, ne-isnt}
use Rattle.conflicts.specs.Choice.{marked, keep_all, first_least}
use Rattle.conflicts.specs.Sides.{side_lists}
use Rattle.conflicts.proofs.SideLaws.{kept-all, all-length, side-mem, sides-length, sides-at}
use Rattle.ranks.specs.declared.rank.Rank.{Rank}
use Rattle.ranks.specs.Algorithm.Weight.{top, place, places_of, weight, digit_at}
use Rattle.ranks.specs.Algorithm.Reading.{code, value}
use Rattle.ranks.proofs.WordLaws.{code-top, count_of, code_of}
use Rattle.ranks.proofs.WeightLaws.{places-ext, places-top, places-digit}
use Rattle.ranks.proofs.FirstLaws.{sides_where, on_second, lightest-sides}
use Rattle.events.specs.Algorithm.Events.{least_event_weight, all_first, events}
use Rattle.events.specs.Algorithm.Weights.{side_weight, column_weight, cost_of}
use Rattle.events.proofs.EventLaws.{Local, local-weight, InClasses, least-lower, Best, best}
use Rattle.events.proofs.ColumnLaws.{Starts, absent-from, live-none, events-ordered}
use Rattle.events.proofs.TotalLaws.{total-le, total-is}

-- ---- lists and sums

-- inside a list the default is not read
inside : (l : List ℕ) (i a b : ℕ) → i < length l → get_or l i a ≡ get_or l i b
inside [] i a b lt = absurd (omega arith)
inside (x ∷ l) zero a b lt = refl
inside (x ∷ l) (suc i) a b lt = inside l i a b (omega arith)

-- past the end of a list only the default is read
past : (l : List ℕ) (i a : ℕ) → length l ≤ i → get_or l i a ≡ a
past [] i a le = refl
past (x ∷ l) zero a le = absurd (omega arith)
past (x ∷ l) (suc i) a le = past l i a (omega arith)

sum-times : (n k : ℕ) (f : ℕ → ℕ) → sum_below n (λ i. f i * k) ≡ sum_below n f * k
unfolding sum_below
sum-times zero k f = sym (zero-mul k)
sum-times (suc n) k f = ap (λ (x : ℕ). x + f n * k) (sum-times n k f) ∙ sym (add-mul (sum_below n f) (f n) k)

-- ---- one of two sides

-- what a fragment weighs on one of two sides
two-weights : (i x : ℕ) → 1 ≤ x → x ≤ 2 → side_weight i x ≡ if x =? 2 then place i else 0
two-weights i x lo hi = elim (ℕ_discrete x 2) [
  | yes e ↦ ap (λ (y : ℕ). y * place i) (let q : x - 1 ≡ 1 = omega arith in q) ∙ (let q : 1 * place i ≡ place i = omega arith in q) ∙ sym (if-true (x =? 2) (place i) 0 (eq-=? x 2 e))
  | no ne ↦ ap (λ (y : ℕ). y * place i) (let q : x - 1 ≡ 0 = omega arith in q) ∙ zero-mul (place i) ∙ sym (if-false (x =? 2) (place i) 0 (ne-isnt x 2 ne))
]

two-again : (x : ℕ) → 1 ≤ x → x ≤ 2 → (if x =? 2 then 2 else 1) ≡ x
two-again x lo hi = elim (ℕ_discrete x 2) [
  | yes e ↦ if-true (x =? 2) 2 1 (eq-=? x 2 e) ∙ sym e
  | no ne ↦ if-false (x =? 2) 2 1 (ne-isnt x 2 ne) ∙ omega arith
]

module _ (m n : ℕ) (start : ℕ → ℕ) (cover : ℕ → ℕ → Bool) (st : Starts m n start cover) (col : ℕ → (ℕ → ℕ) → ℕ) (looks : Local n cover col) where
  -- the least weight over all the events
  abbrev pub least_of : ℕ
  least_of = least_event_weight 2 side_weight (column_weight col) (events start m n) all_first

  -- ---- what given sides weigh

  weight-local : Local n cover (column_weight col)
  weight-local = local-weight looks

  columns-weigh : (l : List ℕ) (t : ℕ → ℕ) → ((i : ℕ) → i < m → get_or l i 0 ≡ t i) → sum_below n (λ c. column_weight col c t) ≡ cost_of col n l * top
  unfolding cost_of
  columns-weigh l t same =
      sum-times n top (λ c. col c t)
      ∙ ap (λ (x : ℕ). x * top) (sum-ext n _ _ λ c lt. sym (looks.local c lt (λ i. get_or l i 0) t (λ x v. same x (st.few c x lt v))))

  sides-weigh : (t : ℕ → ℕ) → InClasses 2 t → sum_below m (λ i. side_weight i (t i)) ≡ places_of m (λ i. t i =? 2)
  unfolding places_of
  sides-weigh t on = sum-ext m _ _ λ i l. two-weights i (t i) (on i).0 (on i).1

  -- ---- no side list weighs less

  on_sides : {sides : List ℕ} → Memᴰ sides (side_lists 2 (keep_all m)) → (i : ℕ) → i < m → (1 ≤ get_or sides i 0) × (get_or sides i 0 ≤ 2)
  unfolding marked
  on_sides member i h = (side-mem 2 _ (sides-at 2 (keep_all m) member i (omega (arith, all-length m)))).0 (kept-all m i h)

  lower : (sides : List ℕ) → Memᴰ sides (side_lists 2 (keep_all m)) → least_of ≤ weight (cost_of col n sides) m (on_second sides)
  unfolding weight
  lower sides member =
      let size : length sides ≡ m = sides-length 2 (keep_all m) member ∙ all-length m in
      let t : ℕ → ℕ = λ i. get_or sides i 1 in
      let same : (i : ℕ) → i < m → get_or sides i 0 ≡ t i = λ i lt. inside sides i 0 1 (omega arith) in
      let on : InClasses 2 t = λ i. elim (dec_lt i m) [
        | yes lt ↦ subst (λ (y : ℕ). (1 ≤ y) × (y ≤ 2)) (same i lt) (on_sides member i lt)
        | no nlt ↦ subst (λ (y : ℕ). (1 ≤ y) × (y ≤ 2)) (sym (past sides i 1 (omega arith))) (omega arith, omega arith)
      ] in
      let low = least-lower 2 (omega arith) side_weight (column_weight col) n cover weight-local (events start m n)
      (events-ordered m n start cover st) all_first t on (λ x v. absurd (live-none m n start cover st x v)) in
      let all = total-le side_weight (column_weight col) start t m n in
      let columns = columns-weigh sides t same in
      let fragments = sides-weigh t on ∙ places-ext m (λ i. t i =? 2) (on_second sides) (λ i lt. ap (λ (y : ℕ). y =? 2) (sym (same i lt))) in
      omega arith

  -- ---- some side list weighs that

  found : Best 2 (omega arith) side_weight (column_weight col) n cover weight-local (events start m n) all_first
  found =
      best 2 (omega arith) side_weight (column_weight col) n cover weight-local (events start m n)
      (events-ordered m n start cover st) all_first (λ x. (omega arith, omega arith))

  -- the fragments on side 2
  second : ℕ → Bool
  second i = found.sides i =? 2

  answer_at : (i : ℕ) → i < m → get_or (sides_where m second) i 0 ≡ found.sides i
  unfolding sides_where second
  answer_at i lt = get_or-tab m (λ i. if found.sides i =? 2 then 2 else 1) i 0 lt ∙ two-again (found.sides i) (found.range i).0 (found.range i).1

  -- a fragment that never enters is on side 1
  answer-weighs : least_of ≡ weight (cost_of col n (sides_where m second)) m second
  unfolding weight second
  answer-weighs =
      let free : (i : ℕ) → i < m → n ≤ start i → side_weight i (found.sides i) ≡ 0 =
      λ i lt le. ap (side_weight i) (found.stay i (absent-from start m i n 0 (λ a b. omega arith))) ∙ zero-mul (place i) in
      let all = total-is side_weight (column_weight col) start found.sides m n free in
      let columns = columns-weigh (sides_where m second) found.sides answer_at in
      let fragments = sides-weigh found.sides found.range in
      let is = found.is in
      omega arith

  module _ (small : m ≤ 128) where
    answer-is : sides_where m second ≡ first_least (cost_of col n) (side_lists 2 (keep_all m)) []
    answer-is = lightest-sides m small (cost_of col n) second (λ sides member. le_trans (le_of_eq (sym answer-weighs)) (lower sides member))

    -- a rank that holds the least weight
    pub rank-sides : (r : Rank) → r.high < 2 ^ 64 → r.low < 2 ^ 64 → value r ≡ least_of
        → (tab m (λ p. 1 + digit_at (code r) p) ≡ first_least (cost_of col n) (side_lists 2 (keep_all m)) []) × (r.count ≡ cost_of col n (first_least (cost_of col n) (side_lists 2 (keep_all m)) []))
    unfolding weight sides_where
    rank-sides r hh hl e = (sides ∙ answer-is, count ∙ ap (cost_of col n) answer-is)
      where
        same : value r ≡ cost_of col n (sides_where m second) * top + places_of m second
        same = e ∙ answer-weighs

        count : r.count ≡ cost_of col n (sides_where m second)
        count = count_of r.count (cost_of col n (sides_where m second)) (code-top hh hl) (places-top m second small) same

        places : code r ≡ places_of m second
        places = code_of r.count (cost_of col n (sides_where m second)) (code-top hh hl) (places-top m second small) same

        side : (b : Bool) → 1 + bit b ≡ if b then 2 else 1
        side true = refl
        side false = refl

        sides : tab m (λ p. 1 + digit_at (code r) p) ≡ sides_where m second
        sides = ext_get_or 0 _ _ (length-tab m _ ∙ sym (length-tab m _)) λ p l.
            let h : p < m = rw (length-tab {A = ℕ}) at l in
            get_or-tab m (λ p. 1 + digit_at (code r) p) p 0 h
            ∙ ap (λ (x : ℕ). 1 + digit_at x p) places ∙ ap (λ (x : ℕ). 1 + x) (places-digit m second p small h) ∙ side (second p)
            ∙ sym (get_or-tab m (λ i. if second i then 2 else 1) p 0 h)
