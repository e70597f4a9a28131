-- `keep::mark_word` meets its contract. The invariant: the word has the marks of the places passed.
-- Assumes nothing.
use mathlib.Core.Path.{◌≡◌}
use Prim.Native.Nat.{◌+◌}
use Rattle.conflicts.specs.Choice.{marked}
use Rattle.places.specs.Algorithm.Words.{word_of}
use Rattle.masks.proofs.keep.mark_word.Given as goal

abbrev pub invariant-loop-b : goal.invariant-loop-b
invariant-loop-b l = l.word ≡ word_of l.b (λ k. marked l.marks (l.start + k))
