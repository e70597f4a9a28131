-- `masks::column_letters` meets its contract. The invariant: the two words have the letters of the fragments passed.
-- Assumes nothing.
use mathlib.Core.Path.{◌≡◌}
use Prim.Native.Nat.{◌+◌}
use Rattle.places.specs.Algorithm.Words.{word_of}
use Rattle.places.specs.Algorithm.Places.{has_place}
use Rattle.masks.specs.Algorithm.Masks.{line_at}
use Rattle.masks.proofs.masks.column_letters.Given as goal

abbrev pub invariant-loop-k : goal.invariant-loop-k
invariant-loop-k l = (l.a ≡ word_of l.k (λ b'. has_place (line_at l.masks (l.start + b')).a l.c)) × (l.b ≡ word_of l.k (λ b'. has_place (line_at l.masks (l.start + b')).b l.c))
