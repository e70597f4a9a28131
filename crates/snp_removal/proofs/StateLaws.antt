-- The table of the programme, one column more: its room, and what it holds.
-- Assumes nothing.
use Rattle.std.specs.Prelude.{if◌then◌else◌}
use mathlib.Core.Path.{◌≡◌, sym, ap, subst, ◌∙◌}
use mathlib.Core.Bool.{Bool, true, false}
use mathlib.Core.List.{List}
use Prim.Native.Nat.{ℕ, suc, ◌+◌, ◌^◌, ◌-◌, ◌≤◌, ◌<◌, min, zero-le}
use native.Mathlib.Nat.{two-pow-succ}
use native.Mathlib.Numerals.{add-one}
use native.Mathlib.Omega.{arith}
use lib.Pow.{pow_mono, pow_pos}
use lib.ListN.{replicate}
use Rattle.below.specs.Below.{nth}
use Rattle.conflicts.specs.Grid.{Grid, mixed}
use Rattle.places.specs.declared.lines.Line.{Line}
use Rattle.masks.specs.Algorithm.Masks.{transposed, Masks, mask_words, words_grid}
use Rattle.ranks.specs.declared.rank.Rank.{Rank}
use Rattle.ranks.specs.Algorithm.Weight.{top, place, AtMost, removal}
use Rattle.ranks.specs.Algorithm.Reading.{code, value, SumFits}
use Rattle.ranks.specs.Algorithm.Tables.{Sweep, weights_of}
use Rattle.ranks.proofs.WeightLaws.{at_most-more}
use Rattle.ranks.proofs.TableLaws.{parts-small, sweep-as, zeros-weights}
use Rattle.snp_removal.specs.Algorithm.Columns.{can_follow, words_follow}
use Rattle.snp_removal.specs.Algorithm.Programme.{choose_column, least_column_weight, if_follows, ColumnRoom, HoldsColumns}
use Rattle.snp_removal.proofs.PairLaws.{words-follow}
use Rattle.snp_removal.proofs.ProgrammeLaws.{one, choose-small, programme-small}

-- ---- room

double-top : (i : ℕ) → i < 128 → place i + place i ≤ top
unfolding top
double-top i h = subst (λ (x : ℕ). x ≤ 2 ^ 128) (two-pow-succ (127 - i)) (pow_mono {i = suc (127 - i)} {j = 128} (omega arith))

-- the weight of column i and one that has room for it add up
pub sum_fits : (i : ℕ) (a b : Rank) {v : ℕ} → i < 128 → a.high < 2 ^ 64 → a.low < 2 ^ 64 → b.high < 2 ^ 64 → b.low < 2 ^ 64
    → value a ≡ removal i → value b ≡ v → AtMost 127 (place i - 1) v → SumFits a b
sum_fits i a b h ah al bh bl ea eb m =
    let p = pow_pos (127 - i) in
    let t = double-top i h in
    let x = parts-small a ah al ea (one (place i)) (below (place i) top p t) in
    let y = parts-small b bh bl eb m (below_less (place i) top p t) in
    record { counts = small x.0 y.0; codes = total (code a) (code b) (place i) top p t x.1 y.1 }
  where
    below : (p t : ℕ) → 0 < p → p + p ≤ t → p < t
    below p t pos le = omega arith

    below_less : (p t : ℕ) → 0 < p → p + p ≤ t → p - 1 < t
    below_less p t pos le = omega arith

    small : {x y : ℕ} → x ≤ 1 → y ≤ 127 → x + y < 2 ^ 32
    small hx hy = omega arith

    total : (x y p t : ℕ) → 0 < p → p + p ≤ t → x ≤ p → y ≤ p - 1 → x + y < t
    total x y p t pos le hx hy = omega arith

-- the weight that the column makes has a count of 16 bits
pub count_fits : (may : Bool) (i j : ℕ) (v : ℕ → ℕ) (r : Rank) → i < 128 → r.high < 2 ^ 64 → r.low < 2 ^ 64 → value r ≡ if_follows may i v j
    → AtMost 127 (place i - 1) (v j) → AtMost 127 (place i - 1) (v (i + 1)) → r.count < 65536
count_fits may i j v r h hh hl e a b =
    let p = pow_pos (127 - i) in
    let t = double-top i h in
    let x = parts-small r hh hl e (choose-small true may p a b) (below (place i) top p t) in
    short x.0
  where
    below : (p t : ℕ) → 0 < p → p + p ≤ t → p + p - 1 < t
    below p t pos le = omega arith

    short : {c : ℕ} → c ≤ 128 → c < 65536
    short l = omega arith

-- the lesser of removed and kept, where it may be kept
pub mixed-weight : (i j : ℕ) (v : ℕ → ℕ) (may may' : Bool) {x gone here out kept : ℕ} → may ≡ may' → here ≡ v j → out ≡ removal i → kept ≡ v (i + 1)
    → gone ≡ out + here → x ≡ (if may then min gone kept else gone) → x ≡ if_follows may' i v j
mixed-weight i j v may may' em eh eo ek eg ex = ex ∙ rw (em, eg, eo, eh, ek)

-- ---- what the table holds

module _ (g : Grid) where
  pub holds-none : (v : ℕ → ℕ) → ((j : ℕ) → v j ≡ 0) → HoldsColumns g 0 v
  unfolding least_column_weight
  holds-none v zeros = record { holds = λ j le. zeros j }

  -- a table of zeros
  pub zeros-held : {t : List ℕ} → t ≡ weights_of (replicate 129 0) (replicate 129 0) (replicate 129 0) → HoldsColumns g 0 (nth t)
  zeros-held e = holds-none _ (λ j. ap (λ (t : List ℕ). nth t j) e ∙ zeros-weights 129 129 129 j)

  module _ (k i : ℕ) (v : ℕ → ℕ) (inside : k < g.n) (is : i ≡ g.n - 1 - k) (held : HoldsColumns g k v) where
    pub holds-room : g.n ≤ 128 → ColumnRoom i v
    holds-room small = record {
      room = λ j le. subst (AtMost 127 (place i - 1)) (sym (held.holds j (omega arith))) (subst (λ (x : ℕ). AtMost 127 (2 ^ x - 1) (least_column_weight g k j))
          (let q : 128 - (g.n - k) ≡ 127 - i = omega arith in q) (at_most-more (omega arith) (omega arith) (programme-small g small k j (omega arith))));
    }

    opened : (j : ℕ) → least_column_weight g (suc k) j ≡ choose_column (mixed g i) (can_follow g j i) (removal i) (least_column_weight g k (suc i)) (least_column_weight g k j)
    unfolding least_column_weight
    opened j = let at : i ≡ g.n - suc k = omega arith in rw at

    -- a mixed column, and one that is not
    pub holds-mixed : (w : ℕ → ℕ) → mixed g i ≡ true → Sweep (λ j. if_follows (can_follow g j i) i v j) v w 0 (i + 1) → HoldsColumns g (k + 1) w
    holds-mixed w m s = record {
      holds = λ j le.
          let here : v j ≡ least_column_weight g k j = held.holds j (omega arith) in
          let next : v (i + 1) ≡ least_column_weight g k (suc i) = held.holds (i + 1) (omega arith) ∙ ap (least_column_weight g k) (add-one i) in
          s.done j zero-le (omega arith) ∙ rw (here, next, add-one k, opened j, m);
    }

    pub holds_plain : mixed g i ≡ false → HoldsColumns g (k + 1) v
    holds_plain m = record { holds = λ j le. held.holds j (omega arith) ∙ rw (add-one k, opened j, m) }

-- what the column makes of the table as it is now, at the next state, is what it makes of the table as it was
pub turn : (may : Bool) (i j : ℕ) {f old now : ℕ → ℕ} → Sweep f old now 0 j → j ≤ i → if_follows may i now j ≡ if_follows may i old j
turn may i j s le = rw (s.rest j (λ lo hi. omega arith), s.rest (i + 1) (λ lo hi. omega arith))

-- the lines of the columns of a matrix of masks
pub columns-of : (m n : ℕ) (masks : List Line) {columns : List Line} → m ≤ 128 → n ≤ 128 → columns ≡ mask_words (transposed (words_grid m n masks)) → Masks (transposed (words_grid m n masks)) columns
unfolding transposed words_grid
columns-of m n masks few narrow e = record { few = narrow; narrow = few; are = e }

-- the lines of the columns tell what the column makes of the table
pub by-lines : (g : Grid) (lines : List Line) (i : ℕ) {v now : ℕ → ℕ} → Masks (transposed g) lines → i < g.n
    → Sweep (λ j. if_follows (words_follow lines j i) i v j) v now 0 (i + 1) → Sweep (λ j. if_follows (can_follow g j i) i v j) v now 0 (i + 1)
by-lines g lines i {v} masks l = sweep-as (λ j h. ap (λ (may : Bool). if_follows may i v j) (words-follow g lines j i masks (omega arith) l))
