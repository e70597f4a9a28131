-- Where the fragments start and end, and the slots that they are granted turn by turn.
-- Assumes nothing.
use Rattle.std.specs.Prelude.{◌≡◌, Bool, false, List, ℕ, ◌+◌, ◌*◌, ◌≤◌, ◌<◌, get_or, length}
use Rattle.below.specs.Below.{nth, any_below, count_below, first_below, isnt, ◌=?◌, ◌<?◌, ◌≤?◌, ◌and◌}
use Rattle.conflicts.specs.Grid.{Grid}
use Rattle.events.specs.Algorithm.Slots.{Given, Apart}
use Rattle.slots.specs.declared.spans.Span.{Span}
use Rattle.slots.specs.Algorithm.Columns.{first_column, end_column_of, covers}

-- the span of fragment i, and one without a column past the end
abbrev pub span_at : List Span → ℕ → Span
span_at spans i = get_or spans i (record { start = 0; end = 0 })

-- where the fragments start and end
pub record Spanned (g : Grid) (spans : List Span) : Type 0 where
  pub size : length spans ≡ 128
  pub begins : (f : ℕ) → f < g.m → (span_at spans f).start ≡ first_column g f
  pub stops : (f : ℕ) → f < g.m → (span_at spans f).end ≡ end_column_of g f

-- a span has column c
unfoldable pub has_column : Span → ℕ → Bool
has_column span c = span.start ≤? c and c <? span.end

-- how many of the first m fragments, by where they start and end, cover column c
unfoldable pub covered_by : ℕ → List Span → ℕ → ℕ
covered_by m spans c = count_below m (λ i. has_column (span_at spans i) c)

-- the lowest of n columns that more than 8 of them cover, and n where there is none
unfoldable pub deep_by : ℕ → ℕ → List Span → ℕ
deep_by m n spans = first_below n (λ c. 8 <? covered_by m spans c)

-- a fragment of this span at position x covers column c and entered before the turn
unfoldable pub entered_by : Span → ℕ → ℕ → ℕ → Bool
entered_by span x c turn = has_column span c and span.start * 256 + x <? turn

-- the same with slot k, and its slot is b
unfoldable pub hit_slot : Span → ℕ → ℕ → ℕ → ℕ → ℕ → Bool
hit_slot span x k c turn b = entered_by span x c turn and k =? b

-- slot b is used at column c by one of the first m fragments that entered before the turn
unfoldable pub used_by : ℕ → List Span → List ℕ → ℕ → ℕ → ℕ → Bool
used_by m spans slots c turn b = any_below m (λ x. hit_slot (span_at spans x) x (nth slots x) c turn b)

-- the lowest slot below 8 that is not, and 8 where none is
unfoldable pub free_by : ℕ → List Span → List ℕ → ℕ → ℕ → ℕ
free_by m spans slots c turn = first_below 8 (λ b. isnt (used_by m spans slots c turn b))

-- the spans of m fragments and their slots below 8, with starts that leave room for the turn
pub record Spans (m : ℕ) (spans : List Span) (slots : List ℕ) : Type 0 where
  pub few : m ≤ 128
  pub low : (x : ℕ) → x < m → (span_at spans x).start ≤ 128
  pub slots_low : (x : ℕ) → get_or slots x 0 < 8

-- the slots in use at column c by one of the first m fragments have a mark
pub record Marks (m : ℕ) (spans : List Span) (slots : List ℕ) (c turn : ℕ) (marks : List Bool) : Type 0 where
  pub size : length marks ≡ 8
  pub used : (b : ℕ) → b < 8 → get_or marks b false ≡ used_by m spans slots c turn b

-- the slots of the fragments that entered before the turn
pub record Granted (g : Grid) (turn : ℕ) (slots : List ℕ) : Type 0 where
  pub size : length slots ≡ 128
  pub low : (i : ℕ) → get_or slots i 0 < 8
  pub given : Given (first_column g) (covers g) g.m g.n 8 turn (nth slots)

-- slots below 8, which differ where two fragments cover a column
pub record Slotted (g : Grid) (slots : List ℕ) : Type 0 where
  pub size : length slots ≡ 128
  pub low : (i : ℕ) → get_or slots i 0 < 8
  pub differ : Apart g.n (covers g) (nth slots)
