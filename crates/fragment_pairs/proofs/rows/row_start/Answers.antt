-- `rows::row_start` meets its contract.
-- Assumes nothing.
use mathlib.Core.Path.{refl}
use native.Mathlib.Nat.{mul-le-mul, lt_of_le_of_lt}
use lib.Dec.{lit<}
use borrow.Author.Rules.{rules}
use Rattle.fragment_pairs.specs.Algorithm.Pairs.{row_start_of}
use Rattle.fragment_pairs.proofs.rows.row_start.Goals as goal

pub overflow_mul-result : goal.overflow_mul-result
overflow_mul-result c = let small = c.requires in record { fits = lt_of_le_of_lt (mul-le-mul {m₂ = 129} small (search rules)) (lit< tt) }

pub returns : goal.returns
unfolding row_start_of
returns c = refl
