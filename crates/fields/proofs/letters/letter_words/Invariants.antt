-- `letters::letter_words` meets its contract. The invariant: the words have the letters of the bytes passed.
-- Assumes nothing.
use mathlib.Core.Path.{◌≡◌}
use Prim.Native.Nat.{◌+◌, ◌*◌}
use Rattle.places.specs.Algorithm.Words.{word_of}
use Rattle.fields.specs.Record.{cell_of}
use Rattle.fields.specs.Algorithm.Letters.{has_a, has_b}
use Rattle.fields.proofs.letters.letter_words.Given as goal

abbrev pub invariant-loop-j : goal.invariant-loop-j
invariant-loop-j l = (l.a ≡ word_of (4 * l.j) (λ k. has_a (cell_of l.part (4 * l.from + k)))) × (l.b ≡ word_of (4 * l.j) (λ k. has_b (cell_of l.part (4 * l.from + k))))
