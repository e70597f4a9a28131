-- The letters of the sides and the cells after correction, over the cell matrix.
-- Assumes nothing.
use Rattle.std.specs.Prelude.{if◌then◌else◌}
use mathlib.Core.Path.{◌≡◌, refl, sym, ap, ap₂, ◌∙◌}
use mathlib.Core.Bool.{Bool, true, false}
use mathlib.Core.List.{List}
use Prim.Native.Nat.{ℕ, ◌+◌, ◌*◌, ◌/◌, ◌%◌, ◌≤◌, ◌<◌}
use native.Mathlib.Decide.{dec_le}
use native.Mathlib.Numerals.{add-one}
use native.Mathlib.Omega.{arith}
use lib.Dec.{T}
use lib.ListN.{length, get_or, set, replicate, get_or-eq_default, length-replicate, get_or-replicate}
use lib.Seq.{get_or-set_other}
use Rattle.below.specs.Below.{sum_below, tab, ◌=?◌, ◌<?◌, ◌and◌, isnt, nth}
use Rattle.fields.specs.Record.{is_call_code}
use Rattle.below.proofs.BelowLaws.{both, right_of, if-ind, if-true, is_false, isnt-T, T-isnt, same_test, left-of, =?-eq, eq-=?, <?-lt, lt-<?, length-tab, get_or-tab}
use Rattle.below.proofs.FillLaws.{Filled, filled_more}
use Rattle.below.proofs.SearchLaws.{<?-true, <?-false}
use Rattle.below.proofs.RowLaws.{tab-ext}
use Rattle.matrix.specs.Algorithm.Matrix.{weighted_grid}
use Rattle.conflicts.specs.Corrections.{correction_cost, letter_weight, majority_letter, side_letter, corrected_cell}
use Rattle.rewriting.specs.Algorithm.Letters.{OnSides, Room, Totals, with_row, corrected_at, corrected_cells, lettered_at, lettered_in}

-- ---- a test with its answer

module _ {b : Bool} (x y : ℕ) where
  pub if_yes : b ≡ true → x ≡ (if b then x else y)
  if_yes e = ap (λ (t : Bool). if t then x else y) (sym e)

  pub if_no : b ≡ false → y ≡ (if b then x else y)
  if_no e = ap (λ (t : Bool). if t then x else y) (sym e)

-- the same where a test passes
if-ext : (b : Bool) {x y : ℕ} → (T b → x ≡ y) → (if b then x else 0) ≡ (if b then y else 0)
if-ext true h = h tt
if-ext false h = refl

-- ---- a letter on a side

module _ (side s : ℕ) (b : Bool) where
  letter-on : side ≡ s → b ≡ (side =? s and b)
  letter-on e = same_test _ _ (λ t. both _ _ (eq-=? _ _ e) t) (λ t. right_of _ _ t)

  letter-off : (side ≡ s → ⊥) → false ≡ (side =? s and b)
  letter-off f = is_false _ (isnt-T _ (λ t. f (=?-eq _ _ (left-of _ _ t))))

-- ---- the totals of a letter

-- a loop through a list in place: below the counter it holds what f says, from there on what it held
pub record Adding (f : ℕ → ℕ) (old : List ℕ) (c : ℕ) (totals : List ℕ) : Type 0 where
  pub passed : Filled 128 f c totals
  pub rest : (j : ℕ) → c ≤ j → get_or totals j 0 ≡ get_or old j 0

module _ (f : ℕ → ℕ) (old : List ℕ) where
  pub adding-more : (c : ℕ) (totals : List ℕ) (v : ℕ) → Adding f old c totals → c < 128 → v ≡ f c → Adding f old (c + 1) (set totals c v)
  adding-more c totals v a lt e =
      record { passed = filled_more 128 f c totals v a.passed lt e; rest = λ j h. get_or-set_other totals c j v 0 (λ q. omega arith) ∙ a.rest j (omega arith) }

pub row-total : (cells : List ℕ) (at weight letter : ℕ) (old : List ℕ) (c total x : ℕ) → total ≡ get_or old c 0 → x ≡ (if get_or cells (at + c) 0 =? letter then weight else 0) → total + x ≡ with_row cells at weight letter old c
unfolding with_row
row-total cells at weight letter old c total x e ex = ap₂ ◌+◌ e ex

module _ (cells weights sides : List ℕ) (s letter : ℕ) where
  abbrev weighs_at : ℕ → ℕ → ℕ
  weighs_at i c = letter_weight (weighted_grid i 128 cells weights) (nth sides) s c letter

  pub totals-none : Totals cells weights sides s letter 0 (replicate 128 0)
  unfolding letter_weight weighted_grid sum_below
  totals-none = record {
    size = length-replicate {A = ℕ} 128 0;
    low = λ c h. let e = get_or-replicate {A = ℕ} 128 c 0 0 h in omega arith;
    weighs = λ c h. get_or-replicate {A = ℕ} 128 c 0 0 h;
  }

  pub totals-room : (i : ℕ) (totals : List ℕ) → i < 128 → Totals cells weights sides s letter i totals → Room totals
  totals-room i totals h t = record { size = t.size; low = λ c l. let b = t.low c l in omega arith }

  -- one fragment more: its share is its weight where it is on the side and has the letter
  weight-more : (i c : ℕ) → weighs_at (i + 1) c ≡ weighs_at i c + (if get_or sides i 0 =? s and get_or cells (i * 128 + c) 0 =? letter then get_or weights i 0 else 0)
  unfolding letter_weight weighted_grid sum_below correction_cost
  weight-more i c = rw (add-one i) refl

  pub totals-more : (i : ℕ) (old new : List ℕ) → get_or sides i 0 ≡ s → (new ≡ tab 128 (with_row cells (i * 128) (get_or weights i 0) letter old)) × (get_or weights i 0 ≤ 255)
      → Totals cells weights sides s letter i old → Totals cells weights sides s letter (i + 1) new
  unfolding with_row
  totals-more i old new on (e, light) t =
      let at : (c : ℕ) → c < 128 → get_or new c 0 ≡ get_or old c 0 + (if get_or cells (i * 128 + c) 0 =? letter then get_or weights i 0 else 0) =
      λ c h. ap (λ (l : List ℕ). get_or l c 0) e ∙ get_or-tab 128 _ c 0 h in
      record {
        size = ap length e ∙ length-tab 128 _;
        low = λ c h. let a = at c h in let b = t.low c h in let l = if-ind (λ x. x ≤ 255) (get_or cells (i * 128 + c) 0 =? letter) {x = get_or weights i 0} {y = 0} (λ q. light) (λ q. omega arith) in omega arith;
        weighs = λ c h.
            at c h
            ∙ ap₂ (λ (x : ℕ) (b : Bool). x + (if b then get_or weights i 0 else 0)) (t.weighs c h) (letter-on (get_or sides i 0) s (get_or cells (i * 128 + c) 0 =? letter) on)
            ∙ sym (weight-more i c);
      }

  pub totals-pass : (i : ℕ) (totals : List ℕ) → (get_or sides i 0 ≡ s → ⊥) → Totals cells weights sides s letter i totals → Totals cells weights sides s letter (i + 1) totals
  totals-pass i totals off t = record {
    size = t.size;
    low = λ c h. let b = t.low c h in omega arith;
    weighs = λ c h. let w = t.weighs c h in let m = weight-more i c in let z = if_no {b = get_or sides i 0 =? s and get_or cells (i * 128 + c) 0 =? letter} (get_or weights i 0) 0 (sym (letter-off (get_or sides i 0) s _ off)) in omega arith;
  }

pub letters-are : (m : ℕ) (cells weights sides a b letters : List ℕ) (s : ℕ) → Totals cells weights sides s 1 m a → Totals cells weights sides s 2 m b
    → letters ≡ tab 128 (λ c. majority_letter (get_or a c 0) (get_or b c 0)) → letters ≡ tab 128 (side_letter (weighted_grid m 128 cells weights) sides s)
unfolding side_letter
letters-are m cells weights sides a b letters s ta tb e = e ∙ tab-ext 128 _ _ (λ c h. ap₂ majority_letter (ta.weighs c h) (tb.weighs c h))

-- ---- a cell after correction

module _ (m n : ℕ) (cells sides first second : List ℕ) (i c : ℕ) (narrow : c < 128) where
  row_is : (i * 128 + c) / 128 ≡ i
  row_is = omega arith

  column-is : (i * 128 + c) % 128 ≡ c
  column-is = omega arith

  pub lettered-row : i < m → lettered_in n cells (i * 128) (if get_or sides i 0 =? 1 then first else second) c ≡ lettered_at m n cells sides first second (i * 128 + c)
  unfolding lettered_in lettered_at ◌and◌
  lettered-row h = rw (row_is, column-is, <?-true i m h) (of-side (get_or sides i 0 =? 1))
    where
      of-side : (b : Bool) → lettered_in n cells (i * 128) (if b then first else second) c
          ≡ (if c <? n then (if is_call_code (nth cells (i * 128 + c)) then (if b then nth first c else nth second c) else nth cells (i * 128 + c)) else 0)
      of-side true = refl
      of-side false = refl

  pub past_row : m ≤ i → 0 ≡ lettered_at m n cells sides first second (i * 128 + c)
  unfolding lettered_at ◌and◌
  past_row h = rw (row_is, <?-false i m h) refl

module _ (m n : ℕ) (cells weights sides first second : List ℕ) (on : OnSides m sides)
    (one : first ≡ tab 128 (side_letter (weighted_grid m 128 cells weights) sides 1)) (two : second ≡ tab 128 (side_letter (weighted_grid m 128 cells weights) sides 2)) where
  letter_at : (letters : List ℕ) (s c : ℕ) → c < 128 → letters ≡ tab 128 (side_letter (weighted_grid m 128 cells weights) sides s) → get_or letters c 0 ≡ side_letter (weighted_grid m n cells weights) sides s c
  unfolding side_letter letter_weight weighted_grid correction_cost
  letter_at letters s c h e = ap (λ (l : List ℕ). get_or l c 0) e ∙ get_or-tab 128 _ c 0 h

  letter-of : (i c : ℕ) → i < m → c < 128 → (if get_or sides i 0 =? 1 then get_or first c 0 else get_or second c 0) ≡ side_letter (weighted_grid m n cells weights) sides (get_or sides i 0) c
  letter-of i c h hc =
      if-ind (λ x. x ≡ side_letter (weighted_grid m n cells weights) sides (get_or sides i 0) c) (get_or sides i 0 =? 1)
      (λ t. letter_at first 1 c hc one ∙ ap (λ (s : ℕ). side_letter (weighted_grid m n cells weights) sides s c) (sym (=?-eq _ _ t)))
      (λ t. letter_at second 2 c hc two ∙ ap (λ (s : ℕ). side_letter (weighted_grid m n cells weights) sides s c) (other t))
    where
      other : T (isnt (get_or sides i 0 =? 1)) → 2 ≡ get_or sides i 0
      other t = let r = on.on i h in let a = r.0 in let b = r.1 in let f : get_or sides i 0 ≡ 1 → ⊥ = λ e. T-isnt _ t (eq-=? _ _ e) in omega arith

  lettered-corrected : (k : ℕ) → lettered_at m n cells sides first second k ≡ corrected_at m n cells weights sides k
  unfolding lettered_at corrected_at corrected_cell weighted_grid
  lettered-corrected k =
      if-ext (k / 128 <? m and k % 128 <? n) λ t.
      ap₂ (λ (x y : ℕ). if is_call_code x then y else x) (ap (λ (j : ℕ). get_or cells j 0) (let p : k ≡ k / 128 * 128 + k % 128 = omega arith in p))
      (letter-of (k / 128) (k % 128) (<?-lt _ _ (left-of _ _ t)) (omega arith))

  pub all-corrected : tab 16384 (lettered_at m n cells sides first second) ≡ corrected_cells m n cells weights sides
  unfolding corrected_cells
  all-corrected = tab-ext 16384 _ _ (λ k h. lettered-corrected k)

-- ---- the matrix after correction

module _ (m n : ℕ) (cells weights sides : List ℕ) (few : m ≤ 128) (narrow : n ≤ 128) where
  pub corrected-cell : (i c : ℕ) → i < m → c < n → get_or (corrected_cells m n cells weights sides) (i * 128 + c) 0 ≡ corrected_cell (weighted_grid m n cells weights) sides i c
  unfolding corrected_cells corrected_at
  corrected-cell i c hi hc =
      let p : (i * 128 + c) / 128 ≡ i = omega arith in
      let q : (i * 128 + c) % 128 ≡ c = omega arith in
      get_or-tab 16384 (corrected_at m n cells weights sides) (i * 128 + c) 0 (omega arith)
      ∙ ap₂ (λ (a b : ℕ). if a <? m and b <? n then corrected_cell (weighted_grid m n cells weights) sides a b else 0) p q
      ∙ if-true (i <? m and c <? n) _ _ (both _ _ (lt-<? i m hi) (lt-<? c n hc))

  -- every cell has two bits
  pub corrected-two-bits : ((i c : ℕ) → i < m → c < n → corrected_cell (weighted_grid m n cells weights) sides i c < 4) → (k : ℕ) → get_or (corrected_cells m n cells weights sides) k 0 < 4
  unfolding corrected_cells corrected_at
  corrected-two-bits small k = elim (dec_le 16384 k) [
    | yes l ↦ let e = get_or-eq_default (tab 16384 (corrected_at m n cells weights sides)) 0 {n = k} (rw (length-tab 16384 (corrected_at m n cells weights sides)) l) in omega arith
    | no l ↦
        rw (get_or-tab 16384 (corrected_at m n cells weights sides) k 0 (omega arith))
        (if-ind (λ x. x < 4) (k / 128 <? m and k % 128 <? n) (λ t. small (k / 128) (k % 128) (<?-lt _ _ (left-of _ _ t)) (<?-lt _ _ (right_of _ _ t))) (λ t. omega arith))
  ]
