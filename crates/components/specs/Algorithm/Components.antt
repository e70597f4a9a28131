-- Components of related fragments, each with a label and a side, while the pairs of fragments are passed one by one.
-- Assumes nothing.
use Rattle.std.specs.Prelude.{◌≡◌, ◌⊎◌, Bool, true, false, List, ℕ, ◌+◌, ◌*◌, ◌-◌, ◌<◌, ◌≤◌, T, length, if◌then◌else◌}
use Rattle.below.specs.Below.{nth, ◌and◌, isnt, tab}
use Rattle.conflicts.specs.Blocks.{Chain, lowest}
use Rattle.conflicts.specs.Choice.{marked}
use Rattle.places.specs.declared.places.Places.{Places}
use Rattle.places.specs.declared.lines.Line.{Line}
use Rattle.places.specs.Algorithm.Places.{conflict_kept_in}
use Rattle.masks.specs.Algorithm.Masks.{line_at}
use Rattle.components.specs.declared.quick_find.Fragments.{Fragments}

-- fragments i and j are kept and conflict on a kept column, by their lines
unfoldable pub related : List Line → Places → List ℕ → ℕ → ℕ → Bool
related lines keep keep_frags i j = marked keep_frags i and marked keep_frags j and conflict_kept_in keep (line_at lines i) (line_at lines j)

-- the lowest fragment that a chain of pairs joins to each kept one, and 255 at each removed
unfoldable pub lowests : ℕ → (ℕ → ℕ → Bool) → List ℕ → List ℕ
lowests m pair kept = tab m (λ i. if marked kept i then lowest m pair i else 255)

-- pairs go both ways, and between the kept alone
pub record Links (m : ℕ) (kept : ℕ → Bool) (pair : ℕ → ℕ → Bool) : Type 0 where
  pub back : (a b : ℕ) → a < m → b < m → T (pair a b) → T (pair b a)
  pub ends : (a b : ℕ) → a < m → b < m → T (pair a b) → T (kept a)

-- side 1 or 2 for each kept fragment, such that the pairs before place k are apart; the pair of a and a later b has place 128a + b
pub record Splits (m : ℕ) (kept : ℕ → Bool) (pair : ℕ → ℕ → Bool) (k : ℕ) (s : ℕ → ℕ) : Type 0 where
  pub two : (a : ℕ) → a < m → T (kept a) → (s a ≡ 1) ⊎ (s a ≡ 2)
  pub apart : (a b : ℕ) → a < b → b < m → a * 128 + b < k → T (pair a b) → s a + s b ≡ 3

-- x is y's side where t is 1, and the other side where t is 2
abbrev pub Tied : ℕ → ℕ → ℕ → Type 0
Tied t x y = ((t ≡ 1) × (x ≡ y)) ⊎ ((t ≡ 2) × (x + y ≡ 3))

-- what holds of the labels l and the sides s after the pairs before place k
pub record State (m : ℕ) (kept : ℕ → Bool) (pair : ℕ → ℕ → Bool) (k : ℕ) (l s : ℕ → ℕ) : Type 0 where
  -- a label is a member's position, none higher than its own, with itself as label
  pub low : (a : ℕ) → a < m → T (kept a) → l a ≤ a
  pub chain : (a : ℕ) → a < m → T (kept a) → Chain m pair a (l a)
  pub fixed : (a : ℕ) → a < m → T (kept a) → l (l a) ≡ l a
  pub met : (a b : ℕ) → a < b → b < m → a * 128 + b < k → T (pair a b) → l a ≡ l b
  pub unlabelled : (a : ℕ) → a < m → T (isnt (kept a)) → l a ≡ 255
  -- the sides are lawful for these pairs, and no other sides are but those that turn whole components over
  pub splits : Splits m kept pair k s
  pub one : (a : ℕ) → a < m → T (kept a) → s (l a) ≡ 1
  pub forced : (x : ℕ → ℕ) → Splits m kept pair k x → (a : ℕ) → a < m → T (kept a) → Tied (s a) (x a) (x (l a))
  pub off : (a : ℕ) → a < m → T (isnt (kept a)) → s a ≡ 0

-- there are no sides
pub record NoSides (m : ℕ) (kept : ℕ → Bool) (pair : ℕ → ℕ → Bool) : Type 0 where
  pub none : (x : ℕ → ℕ) → Splits m kept pair 16384 x → ⊥

-- A on a yes, B on a no
pub record ByVerdict (ok : Bool) (A B : Type 0) : Type 0 where
  pub yes : ok ≡ true → A
  pub no : ok ≡ false → B

-- what joining i and a later j comes to, whatever the pairs are, if the two are one of them
pub record Step (m i j : ℕ) (ok : Bool) (l s l' s' : ℕ → ℕ) : Type 0 where
  pub on : (kept : ℕ → Bool) (pair : ℕ → ℕ → Bool) → Links m kept pair → T (pair i j) → State m kept pair (i * 128 + j) l s
      → ByVerdict ok (State m kept pair (i * 128 + (j + 1)) l' s') (NoSides m kept pair)

-- a side, turned over or not
abbrev pub side_turned : Bool → ℕ → ℕ
side_turned true s = 3 - s
side_turned false s = s

-- the component hi is taken into lo, its sides turned over or not
pub record Joined (m lo hi : ℕ) (turn : Bool) (l s l' s' : ℕ → ℕ) : Type 0 where
  pub moved : (a : ℕ) → a < m → l a ≡ hi → (l' a ≡ lo) × (s' a ≡ side_turned turn (s a))
  pub left : (a : ℕ) → a < m → (l a ≡ hi → ⊥) → (l' a ≡ l a) × (s' a ≡ s a)

-- at most 128 fragments, and a side and a label for each
pub record Room (fragments : Fragments) (sides labels : List ℕ) : Type 0 where
  pub few : length fragments.frags.now ≤ 128
  pub sided : length sides ≡ length fragments.frags.now
  pub labelled : length labels ≡ length fragments.frags.now

-- the state of the fragments that are related by their lines
abbrev pub Passed : Fragments → ℕ → List ℕ → List ℕ → Type 0
Passed f k sides labels = State (length f.frags.now) (marked f.frags.now) (related f.masks.now f.keep f.frags.now) k (nth labels) (nth sides)

-- on a yes the pairs before place k are passed, on a no there are no sides
abbrev pub PassedOr : Bool → Fragments → ℕ → List ℕ → List ℕ → Type 0
PassedOr ok f k sides labels = ByVerdict ok (Passed f k sides labels) (NoSides (length f.frags.now) (marked f.frags.now) (related f.masks.now f.keep f.frags.now))
