-- `pairs::mirror_row` meets its contract. The invariant: the pairs passed have their numbers, whatever these are, if they are the same both ways.
-- Assumes nothing.
use mathlib.Core.Path.{◌≡◌}
use Prim.Native.Nat.{ℕ, ◌+◌, ◌*◌}
use Rattle.masks.specs.Algorithm.Pairs.{Numbered}
use Rattle.masks.proofs.pairs.mirror_row.Given as goal

abbrev pub invariant-loop-j : goal.invariant-loop-j
invariant-loop-j l = (number : ℕ → ℕ → ℕ) → ((a b : ℕ) → number a b ≡ number b a) → Numbered number (l.i * 128) l.initial.matrix → Numbered number (l.i * 128 + l.j) l.matrix
