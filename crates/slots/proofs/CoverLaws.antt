-- The fragments of a matrix start and cover as the events want it; a column's cost looks only at them, and is bounded by what they weigh.
-- Assumes nothing.
use Rattle.std.specs.Prelude.{if◌then◌else◌}
use mathlib.Core.Path.{◌≡◌, refl, ap, ap₂}
use mathlib.Core.Bool.{Bool, true, false}
use mathlib.Core.List.{List}
use Prim.Native.Nat.{ℕ, zero, suc, ◌+◌, ◌*◌, ◌-◌, ◌≤◌, ◌<◌, zero-le}
use native.Mathlib.Nat.{min-le_left, min-le_right}
use native.Mathlib.Omega.{arith}
use lib.Dec.{T}
use Rattle.below.specs.Below.{nth, bit, sum_below, count_below, ◌=?◌, ◌<?◌, ◌≤?◌, ◌and◌}
use Rattle.fields.specs.Record.{is_call_code}
use Rattle.fields.specs.Writing.{calls_end_of}
use Rattle.below.proofs.BelowLaws.{both, left-of, right_of, =?-eq, <?-lt, lt-<?, ≤?-le, le-≤?, same_test, any_below-at, any_below-of, sum-ext, sum-le, sum-add, sum-most, count-ext, first_below-le, first_below-at, first_below-least}
use Rattle.records.proofs.ExtentLaws.{end_below-le, end_below-at, end_below-past, call-of}
use Rattle.conflicts.specs.Grid.{Grid, stretch_covers, coverage}
use Rattle.conflicts.specs.Corrections.{correction_cost, side_price, letter_weight, column_cost, cost}
use Rattle.events.specs.Algorithm.Weights.{column_weight}
use Rattle.events.proofs.EventLaws.{Local, local-weight}
use Rattle.events.proofs.ColumnLaws.{Starts}
use Rattle.slots.specs.Algorithm.Columns.{first_column, end_column_of, covers}
use Rattle.conflicts.specs.Served.{NoneDeep}

-- ---- sums

-- what passes either of two tests that exclude each other weighs no more than what passes a third that both imply
either-le : (p q r : Bool) (w : ℕ) → (T p → T q → ⊥) → (T p → T r) → (T q → T r) → (if p then w else 0) + (if q then w else 0) ≤ (if r then w else 0)
either-le true true r w apart f h = absurd (apart tt tt)
either-le true false true w apart f h = omega arith
either-le true false false w apart f h = absurd (f tt)
either-le false true true w apart f h = omega arith
either-le false true false w apart f h = absurd (h tt)
either-le false false r w apart f h = zero-le

-- what passes a test weighs at most 60 each
weigh-le : (m : ℕ) (p : ℕ → Bool) (w : ℕ → ℕ) → ((i : ℕ) → i < m → w i ≤ 60) → sum_below m (λ i. if p i then w i else 0) ≤ count_below m p * 60
unfolding sum_below count_below
weigh-le zero p w light = zero-le
weigh-le (suc m) p w light = step (p m) (count_below m p) (weigh-le m p w (λ i h. light i (omega arith))) (light m (omega arith))
  where
    step : (b : Bool) (k : ℕ) {x w : ℕ} → x ≤ k * 60 → w ≤ 60 → x + (if b then w else 0) ≤ (k + bit b) * 60
    step true k a h = omega arith
    step false k a h = omega arith

module _ (g : Grid) where
  -- ---- covers

  pub covers_of : (c i : ℕ) → i < g.m → first_column g i ≤ c → c < end_column_of g i → T (covers g c i)
  unfolding covers
  covers_of c i h a b = both _ _ (lt-<? _ _ h) (both _ _ (le-≤? _ _ a) (lt-<? _ _ b))

  pub covers_at : (c i : ℕ) → T (covers g c i) → (i < g.m) × (first_column g i ≤ c) × (c < end_column_of g i)
  unfolding covers
  covers_at c i t =
      let r = right_of (i <? g.m) _ t in
      (<?-lt _ _ (left-of (i <? g.m) _ t), ≤?-le _ _ (left-of (first_column g i ≤? c) _ r), <?-lt _ _ (right_of (first_column g i ≤? c) _ r))

  -- a called column is covered
  pub called-covers : (c i : ℕ) → c < g.n → i < g.m → T (is_call_code (g.cell i c)) → T (covers g c i)
  unfolding first_column end_column_of calls_end_of
  called-covers c i hc hi t = covers_of c i hi (first_below-least g.n _ c hc t) (end_below-past g.n _ c hc t)

  pub grid-starts : Starts g.m g.n (first_column g) (covers g)
  unfolding first_column
  grid-starts = record {
    few = λ c x lt v. (covers_at c x v).0;
    after = λ c x lt v. (covers_at c x v).1;
    between = λ c d x lt a b v. let r = covers_at d x v in covers_of c x r.0 a (let u = r.2 in omega arith);
    at = λ x lt l. called-covers (first_column g x) x l lt (first_below-at g.n _ l);
  }

  pub start-le : (i : ℕ) → first_column g i ≤ g.n
  unfolding first_column
  start-le i = first_below-le g.n _

  -- ---- the coverage that rule 12 counts

  stretch-inside : (c i : ℕ) → i < g.m → T (stretch_covers g c i) → T (covers g c i)
  unfolding stretch_covers first_column end_column_of calls_end_of
  stretch-inside c i hi t =
      let a = any_below-at g.n _ (left-of _ _ t) in
      let b = any_below-at g.n _ (right_of _ _ t) in
      let before = ≤?-le _ _ (left-of _ _ a.2) in
      let after = ≤?-le _ _ (left-of _ _ b.2) in
      let first = first_below-least g.n (λ x. is_call_code (g.cell i x)) a.0 a.1 (right_of _ _ a.2) in
      let last = end_below-past g.n (λ x. is_call_code (g.cell i x)) b.0 b.1 (right_of _ _ b.2) in
      covers_of c i hi (omega arith) (omega arith)

  stretch-around : (c i : ℕ) → c < g.n → T (covers g c i) → T (stretch_covers g c i)
  unfolding stretch_covers first_column end_column_of calls_end_of
  stretch-around c i hc t =
      let r = covers_at c i t in
      let from = r.1 in
      let to = r.2 in
      let most = end_below-le g.n (λ x. is_call_code (g.cell i x)) in
      let first = first_below-at g.n (λ x. is_call_code (g.cell i x)) (omega arith) in
      let last = end_below-at g.n (λ x. is_call_code (g.cell i x)) (omega arith) in
      both _ _
      (any_below-of g.n _ (first_column g i) (omega arith) (both _ _ (le-≤? _ _ from) first))
      (any_below-of g.n _ (end_column_of g i - 1) (omega arith) (both _ _ (le-≤? _ _ (omega arith)) last))

  -- how many fragments cover a column
  pub coverage-is : (c : ℕ) → c < g.n → coverage g c ≡ count_below g.m (covers g c)
  unfolding coverage
  coverage-is c hc = count-ext g.m _ _ (λ i hi. same_test _ _ (stretch-inside c i hi) (stretch-around c i hc))

  -- ---- a column's cost

  -- a cell with a letter is a call
  letter-call : (c i letter : ℕ) → 0 < letter → letter ≤ 2 → T (g.cell i c =? letter) → T (is_call_code (g.cell i c))
  letter-call c i letter lo hi t = let e = =?-eq _ _ t in call-of (g.cell i c) (omega arith) (omega arith)

  and_same : (a b q : Bool) → (T q → a ≡ b) → (a and q) ≡ (b and q)
  unfolding ◌and◌
  and_same a b true h = ap (λ (x : Bool). x and true) (h tt)
  and_same true true false h = refl
  and_same true false false h = refl
  and_same false true false h = refl
  and_same false false false h = refl

  count-local : (x c letter : ℕ) → 0 < letter → letter ≤ 2 → c < g.n → (s t : ℕ → ℕ) → ((i : ℕ) → T (covers g c i) → s i ≡ t i) → letter_weight g s x c letter ≡ letter_weight g t x c letter
  unfolding letter_weight
  count-local x c letter lo hi hc s t same =
      sum-ext g.m _ _ λ i l. ap (λ (b : Bool). if b then correction_cost g i else 0)
      (and_same (s i =? x) (t i =? x) (g.cell i c =? letter) (λ v. ap (λ (y : ℕ). y =? x) (same i (called-covers c i hc l (letter-call c i letter lo hi v)))))

  -- it looks only at the fragments that cover the column
  pub cost-local : (k : ℕ) → Local g.n (covers g) (column_cost k g)
  unfolding column_cost
  cost-local k = record {
    local = λ c lt s t same. sum-ext k _ _ λ d l.
        ap₂ side_price (count-local (suc d) c 1 (omega arith) (omega arith) lt s t same) (count-local (suc d) c 2 (omega arith) (omega arith) lt s t same);
  }

  pub weight-local : (k : ℕ) → Local g.n (covers g) (column_weight (column_cost k g))
  weight-local k = local-weight (cost-local k)

  -- ---- its bound, where no weight is over 60

  module _ (light : (i : ℕ) → i < g.m → g.weight i ≤ 60) (c : ℕ) (s : ℕ → ℕ) (hc : c < g.n) where
    -- what the fragments of side x that cover the column weigh
    side_total : ℕ → ℕ
    side_total x = sum_below g.m (λ i. if s i =? x and covers g c i then g.weight i else 0)

    letter-covers : (x i letter : ℕ) → i < g.m → 0 < letter → letter ≤ 2 → T (s i =? x and g.cell i c =? letter) → T (s i =? x and covers g c i)
    letter-covers x i letter h lo hi t = both _ _ (left-of _ _ t) (called-covers c i hc h (letter-call c i letter lo hi (right_of _ _ t)))

    -- a fragment has one letter at the column
    letters-le : (x : ℕ) → letter_weight g s x c 1 + letter_weight g s x c 2 ≤ side_total x
    unfolding letter_weight correction_cost side_total
    letters-le x =
        rw (← sum-add g.m (λ i. if s i =? x and g.cell i c =? 1 then g.weight i else 0) (λ i. if s i =? x and g.cell i c =? 2 then g.weight i else 0))
        (sum-le g.m _ _ λ i h. either-le (s i =? x and g.cell i c =? 1) (s i =? x and g.cell i c =? 2) (s i =? x and covers g c i) (g.weight i)
        (λ p q. let a = =?-eq _ _ (right_of _ _ p) in let b = =?-eq _ _ (right_of _ _ q) in omega arith)
        (letter-covers x i 1 h (omega arith) (omega arith)) (letter-covers x i 2 h (omega arith) (omega arith)))

    -- and one side
    sides-le : side_total 1 + side_total 2 ≤ sum_below g.m (λ i. if covers g c i then g.weight i else 0)
    unfolding side_total
    sides-le =
        rw (← sum-add g.m (λ i. if s i =? 1 and covers g c i then g.weight i else 0) (λ i. if s i =? 2 and covers g c i then g.weight i else 0))
        (sum-le g.m _ _ λ i h. either-le (s i =? 1 and covers g c i) (s i =? 2 and covers g c i) (covers g c i) (g.weight i)
        (λ p q. let a = =?-eq _ _ (left-of _ _ p) in let b = =?-eq _ _ (left-of _ _ q) in omega arith)
        (λ t. right_of _ _ t) (λ t. right_of _ _ t))

    -- each side changes the letter of smaller weight, so at most half of 8 × 60 is paid
    pub cost-bound : NoneDeep g → column_cost 2 g c s ≤ 240
    unfolding column_cost sum_below side_price
    cost-bound sh =
        let d = sh.shallow c hc in
        let e = coverage-is c hc in
        let all = weigh-le g.m (covers g c) g.weight light in
        let sides = sides-le in
        let one = letters-le 1 in
        let two = letters-le 2 in
        let p = min-le_left (letter_weight g s 1 c 1) (letter_weight g s 1 c 2) in
        let p' = min-le_right (letter_weight g s 1 c 1) (letter_weight g s 1 c 2) in
        let q = min-le_left (letter_weight g s 2 c 1) (letter_weight g s 2 c 2) in
        let q' = min-le_right (letter_weight g s 2 c 1) (letter_weight g s 2 c 2) in
        omega arith

  -- "8 × 60 / 2 × 128": no side list costs more, on at most 128 columns
  pub cost-within : ((i : ℕ) → i < g.m → g.weight i ≤ 60) → NoneDeep g → g.n ≤ 128 → (sides : List ℕ) → cost 2 g sides ≤ 30720
  unfolding cost
  cost-within light sh narrow sides = let h = sum-most g.n (λ c. column_cost 2 g c (nth sides)) 240 (λ c hc. cost-bound light c (nth sides) hc sh) in omega arith
