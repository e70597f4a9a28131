-- `packing::Fragments::fragments_fault` meets its contract. The loop's invariant: the verdict is that of the fragments from i on.
-- Assumes nothing.
use mathlib.Core.Path.{◌≡◌}
use Prim.Native.Nat.{◌-◌, ◌<◌}
use lib.ListN.{length}
use Rattle.records.proofs.RuleLaws.{from_row}
use Rattle.records.specs.Rules.{decide}
use Rattle.records.specs.Outcome.{accepted}
use Rattle.conflicts.specs.Services.{packed_start, fragment_rules}
use Rattle.packing.specs.Algorithm.Sizes.{fragments_rules}
use Rattle.packing.proofs.packing.Fragments.fragments_fault.Given as goal

abbrev pub invariant-loop-i : goal.invariant-loop-i
invariant-loop-i l = (l.m ≡ length l.self.tags.now)
    × (0 < l.i → l.last ≡ packed_start l.self.n l.self.cells.now (l.i - 1))
    × (decide (fragments_rules l.self.n l.self.cells.now l.self.tags.now l.self.grades.now) (accepted (length l.self.tags.now)) ≡ from_row (fragment_rules l.self.n l.self.cells.now l.self.tags.now l.self.grades.now) (accepted (length l.self.tags.now)) l.i l.m)
