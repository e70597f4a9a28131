-- What the elimination works on: a matrix with its weights, spans and slots, the prices of a column slot by slot, and 256 weights.
-- Assumes nothing.
use Rattle.std.specs.Prelude.{◌≡◌, List, ℕ, ◌<◌, get_or, length, if◌then◌else◌}
use Rattle.below.specs.Below.{nth, ◌=?◌}
use Rattle.conflicts.specs.Grid.{Grid}
use Rattle.matrix.specs.Algorithm.Matrix.{weighted_grid, Matrix, Weights}
use Rattle.conflicts.specs.Corrections.{correction_cost, column_cost}
use Rattle.ranks.specs.Algorithm.Weight.{place}
use Rattle.ranks.specs.Algorithm.Tables.{Sweep}
use Rattle.events.specs.Algorithm.Events.{Event}
use Rattle.events.specs.Algorithm.Weights.{side_weight, column_weight}
use Rattle.events.specs.Algorithm.Slots.{HoldsEvents, entered, gathered}
use Rattle.patterns.specs.Algorithm.Patterns.{PatternsRoom}
use Rattle.conflicts.specs.Served.{NoneDeep}
use Rattle.slots.specs.Algorithm.Columns.{covers}
use Rattle.slots.specs.declared.spans.Span.{Span}
use Rattle.slots.specs.Algorithm.Spans.{Spanned, Slotted}

-- a matrix of which at most 8 fragments cover a column, with its weights, spans and slots
pub record Ready (m n : ℕ) (cells weights : List ℕ) (spans : List Span) (slots : List ℕ) : Type 0 where
  pub matrix : Matrix m n cells
  pub weighed : Weights weights
  pub shallow : NoneDeep (weighted_grid m n cells weights)
  pub spanned : Spanned (weighted_grid m n cells weights) spans
  pub slotted : Slotted (weighted_grid m n cells weights) slots

-- the price of a letter in fragment j at column c: what it costs to turn the call there, if it is that letter
unfoldable pub letter_price : Grid → ℕ → ℕ → ℕ → ℕ
letter_price g c letter j = if g.cell j c =? letter then correction_cost g j else 0

-- the prices of a letter at column c, slot by slot, of the first i fragments
pub record Gathered (g : Grid) (slots : List ℕ) (c letter i : ℕ) (prices : List ℕ) : Type 0 where
  pub size : length prices ≡ 8
  pub price : (b : ℕ) → b < 8 → get_or prices b 0 ≡ gathered (covers g c) (nth slots) (letter_price g c letter) i b

-- room for fragment f, which starts at column s, to enter at column c
pub record EnterRoom (s c f : ℕ) (v : ℕ → ℕ) : Type 0 where
  pub room : s ≡ c → PatternsRoom (place f) 0 v

-- fragment f, which starts at column s and has slot b, has entered if that is column c
pub record EntersIf (s b c f : ℕ) (v u : ℕ → ℕ) : Type 0 where
  pub enters : s ≡ c → Sweep (entered 2 b (side_weight f) v) v u 0 256
  pub passes : (s ≡ c → ⊥) → u ≡ v

-- the weights are the least over the events
abbrev pub HoldsAll : Grid → List ℕ → List Event → (ℕ → ℕ) → Type 0
HoldsAll g slots es v = HoldsEvents 2 side_weight (column_weight (column_cost 2 g)) (nth slots) 8 es v
