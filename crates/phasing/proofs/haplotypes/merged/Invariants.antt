-- `haplotypes::merged` meets its contract. The invariant: the lines of the fragments passed are merged.
-- Assumes nothing.
use mathlib.Core.Path.{◌≡◌}
use Rattle.phasing.specs.Algorithm.Haplotypes.{merged_line}
use Rattle.phasing.proofs.haplotypes.merged.Given as goal

abbrev pub invariant-loop-i : goal.invariant-loop-i
invariant-loop-i l = l.line ≡ merged_line l.masks l.sides l.s l.i
