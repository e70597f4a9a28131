-- `letters::majorities` meets its contract. The invariant: the columns passed have their letters.
-- Assumes nothing.
use Rattle.below.specs.Below.{nth}
use Rattle.below.proofs.FillLaws.{Filled}
use Rattle.conflicts.specs.Corrections.{majority_letter}
use Rattle.rewriting.proofs.letters.majorities.Given as goal

abbrev pub invariant-loop-c : goal.invariant-loop-c
invariant-loop-c l = Filled 128 (λ c'. majority_letter (nth l.a c') (nth l.b c')) l.c l.letters
