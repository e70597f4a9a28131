-- The fragments of a table as stretches of columns, and rule 12's column.
-- Assumes nothing.
use Rattle.std.specs.Prelude.{ℕ, Bool}
use Rattle.below.specs.Below.{first_below, ◌<?◌, ◌≤?◌, ◌and◌}
use Rattle.fields.specs.Record.{is_call_code}
use Rattle.fields.specs.Writing.{calls_end_of}
use Rattle.conflicts.specs.Grid.{Grid, coverage}

-- "the first called column" of fragment i, and n where it calls none
unfoldable pub first_column : Grid → ℕ → ℕ
first_column g i = first_below g.n (λ c. is_call_code (g.cell i c))

-- one past the last called column, and 0 where it calls none
unfoldable pub end_column_of : Grid → ℕ → ℕ
end_column_of g i = calls_end_of g.n (g.cell i)

-- fragment i covers column c: it lies from the first called column to the last
unfoldable pub covers : Grid → ℕ → ℕ → Bool
covers g c i = i <? g.m and (first_column g i ≤? c and c <? end_column_of g i)

-- 12, "too deep": the lowest column that more than 8 fragments cover, and n where there is none
unfoldable pub first_deep_of : Grid → ℕ
first_deep_of g = first_below g.n (λ c. 8 <? coverage g c)
