-- What the words of a matrix say of two of its lines.
-- Assumes nothing.
use mathlib.Core.Path.{◌≡◌, sym, ap, ap₂, ◌∙◌}
use mathlib.Core.Bool.{Bool, false}
use mathlib.Core.List.{List}
use Prim.Native.Nat.{ℕ, ◌+◌, ◌≤◌, ◌<◌}
use native.Mathlib.Omega.{arith}
use borrow.Author.Count.{below_more}
use lib.ListN.{length, set, length-set}
use lib.Seq.{get_or-set_same, get_or-set_other, ext_get_or}
use Rattle.below.specs.Below.{◌=?◌, ◌and◌, ◌or◌, count_below, tab}
use Rattle.below.proofs.BelowLaws.{length-tab, get_or-tab}
use Rattle.below.proofs.SearchLaws.{<?-true, <?-false}
use Rattle.conflicts.specs.Grid.{Grid, calls_conflict, conflict_on}
use Rattle.places.specs.declared.lines.Line.{Line}
use Rattle.places.specs.declared.places.Places.{Places}
use Rattle.places.specs.Algorithm.Words.{half_word}
use Rattle.places.specs.Algorithm.Places.{places_where, both_places, either_of, size, conflict_places, agree_places, conflict_size}
use Rattle.masks.specs.Algorithm.Masks.{has_letter, line_of, mask_words, no_letters, line_at, Masks, WordsBegun}
use Rattle.places.proofs.WordLaws.{word_none}
use Rattle.places.proofs.PlaceLaws.{places, where-ext, up_to, both_below, either-below, some_below, size_below}

-- ---- the words of a line

-- a line of two sets
abbrev pub line : Places → Places → Line
line a b = record { a = a; b = b }

where-none : (p : ℕ → Bool) → ((c : ℕ) → c < 128 → p c ≡ false) → places 0 0 ≡ places_where p
unfolding places_where half_word
where-none p none = ap₂ places (word_none 64 _ (λ b h. none _ (omega arith))) (word_none 64 _ (λ b h. none _ (omega arith)))

no-letter : (g : Grid) (letter i c : ℕ) → g.m ≤ i → has_letter g letter i c ≡ false
unfolding has_letter ◌and◌
no-letter g letter i c l = rw (<?-false i g.m l)

-- a line past the last
pub line-none : (g : Grid) (i : ℕ) → g.m ≤ i → line (places 0 0) (places 0 0) ≡ line_of g i
unfolding line_of
line-none g i l = ap₂ line (none_of 1) (none_of 2)
  where
    none_of : (letter : ℕ) → places 0 0 ≡ places_where (has_letter g letter i)
    none_of letter = where-none _ (λ c h. no-letter g letter i c l)

-- line i of the words is fragment i's
pub line-is : (g : Grid) (i : ℕ) {lines : List Line} → Masks g lines → i < 128 → line_at lines i ≡ line_of g i
unfolding mask_words
line-is g i masks h = rw masks.are (get_or-tab 128 (line_of g) i no_letters h)

-- … of a fragment of the matrix
pub line-at : (g : Grid) (i : ℕ) {lines : List Line} → Masks g lines → i < g.m → line_at lines i ≡ line_of g i
line-at g i masks h = let few = masks.few in line-is g i masks (omega arith)

-- no line yet, one line more, and all lines
pub words-none : (g : Grid) {lines : List Line} → length lines ≡ 128 → WordsBegun g 0 lines
words-none g e = record { sized = e; done = λ k h. absurd (omega arith) }

pub words_more : (g : Grid) (i : ℕ) {x : Line} {lines : List Line} → i < 128 → x ≡ line_of g i → WordsBegun g i lines → WordsBegun g (i + 1) (set lines i x)
words_more g i {x} {lines} h e begun =
    let s = begun.sized in
    record {
      sized = simp length-set s;
      done = below_more (λ (k : ℕ). line_at (set lines i x) k ≡ line_of g k) i (λ k l. get_or-set_other lines i k x no_letters (λ q. omega arith) ∙ begun.done k l)
          (get_or-set_same lines i x no_letters (omega arith) ∙ e);
    }

pub words-all : (g : Grid) {i : ℕ} {lines : List Line} → 128 ≤ i → WordsBegun g i lines → lines ≡ mask_words g
unfolding mask_words
words-all g {i} {lines} all begun =
    ext_get_or no_letters lines (tab 128 (line_of g)) (begun.sized ∙ sym (length-tab 128 (line_of g)))
    (λ k h. let s = begun.sized in let l : k < 128 = omega arith in begun.done k (omega arith) ∙ sym (get_or-tab 128 (line_of g) k no_letters l))

-- ---- two lines

-- fragment i has the letter, below n
abbrev letter_in : Grid → ℕ → ℕ → ℕ → Bool
letter_in g letter i c = g.cell i c =? letter

pub letter-places : (g : Grid) (letter i : ℕ) → i < g.m → places_where (has_letter g letter i) ≡ places_where (up_to g.n (letter_in g letter i))
unfolding has_letter ◌and◌
letter-places g letter i h = where-ext _ _ (λ c l. rw (<?-true i g.m h))

-- both codes are one letter
abbrev pub codes_agree : ℕ → ℕ → Bool
codes_agree x y = x =? 1 and y =? 1 or x =? 2 and y =? 2

module _ (g : Grid) (i j : ℕ) (hi : i < g.m) (hj : j < g.m) where
  meet : (one other : ℕ) → both_places (places_where (has_letter g one i)) (places_where (has_letter g other j)) ≡ places_where (up_to g.n (λ c. g.cell i c =? one and g.cell j c =? other))
  meet one other = ap₂ both_places (letter-places g one i hi) (letter-places g other j hj) ∙ both_below g.n _ _

  pub lines-conflict : conflict_places (line_of g i) (line_of g j) ≡ places_where (up_to g.n (λ c. calls_conflict (g.cell i c) (g.cell j c)))
  unfolding conflict_places line_of calls_conflict
  lines-conflict = ap₂ either_of (meet 1 2) (meet 2 1) ∙ either-below g.n _ _

  pub lines-agree : agree_places (line_of g i) (line_of g j) ≡ places_where (up_to g.n (λ c. codes_agree (g.cell i c) (g.cell j c)))
  unfolding agree_places line_of
  lines-agree = ap₂ either_of (meet 1 1) (meet 2 2) ∙ either-below g.n _ _

-- the number of conflicts on the columns that pass a test
pub conflicts-where : (g : Grid) (p : ℕ → Bool) (i j : ℕ) {lines : List Line} → Masks g lines → i < g.m → j < g.m
    → conflict_size (places_where p) (line_at lines i) (line_at lines j) ≡ count_below g.n (λ c. p c and conflict_on g c i j)
unfolding conflict_size conflict_on
conflicts-where g p i j masks hi hj =
    ap (λ (q : Places). size (both_places (places_where p) q)) (ap₂ conflict_places (line-at g i masks hi) (line-at g j masks hj) ∙ lines-conflict g i j hi hj)
    ∙ ap size (some_below g.n p _)
    ∙ size_below g.n _ masks.narrow
