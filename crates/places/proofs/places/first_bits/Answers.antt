-- `places::first_bits` meets its contract.
-- Assumes nothing.
use mathlib.Core.Path.{ap, sym, ◌∙◌}
use native.Mathlib.Omega.{arith}
use Prim.Native.Nat.{ℕ}
use Rattle.below.specs.Below.{◌<?◌}
use Rattle.places.specs.Algorithm.Words.{word_of}
use Rattle.places.proofs.ShiftLaws.{word_first, first_word}
use Rattle.places.proofs.places.first_bits.Goals as goal

pub returns-then-count-eq64 : goal.returns-then-count-eq64
returns-then-count-eq64 c = word_first 64 (omega arith) ∙ ap (λ (k : ℕ). word_of 64 (λ b. b <? k)) (sym c.if-count-eq64.true)

pub overflow_sub-result : goal.overflow_sub-result
overflow_sub-result c = let h = c.if-count-eq64.false in (first_word c.args.count (omega arith)).0

pub returns-else-count-eq64 : goal.returns-else-count-eq64
returns-else-count-eq64 c = let h = c.if-count-eq64.false in (first_word c.args.count (omega arith)).1
