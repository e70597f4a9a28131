-- The letter that a side's calls become is a call. By itself, so that a wrong definition under which this holds too is refused by other laws alone.
-- Assumes nothing.
use mathlib.Core.List.{List}
use Prim.Native.Nat.{ℕ}
use lib.Dec.{T}
use Rattle.below.specs.Below.{nth, ◌=?◌, ◌<?◌, ◌or◌}
use Rattle.fields.specs.Record.{is_call_code}
use Rattle.below.proofs.BelowLaws.{or_left, or_right, if-ind, =?-refl}
use Rattle.conflicts.specs.Grid.{Grid}
use Rattle.conflicts.specs.Corrections.{letter_weight, majority_letter, side_letter}

pub letter-call : (g : Grid) (sides : List ℕ) (s c : ℕ) → T (is_call_code (side_letter g sides s c))
unfolding side_letter majority_letter is_call_code
letter-call g sides s c =
    if-ind (λ x. T (x =? 1 or x =? 2)) (letter_weight g (nth sides) s c 1 <? letter_weight g (nth sides) s c 2)
    (λ t. or_right (2 =? 1) _ (=?-refl 2)) (λ t. or_left _ (1 =? 2) (=?-refl 1))
