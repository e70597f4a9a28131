use mathlib.Core.Path.{◌≡◌}
use Rattle.fields.specs.Table.{fragments}
use Rattle.records.specs.Outcome.{accepted}
use Rattle.records.specs.Rules.{decide}
use Rattle.records.specs.Algorithm.Kept.{rules_of}
use Rattle.below.specs.Below.{tab, concat}
use Rattle.records.proofs.RuleLaws.{from_row}
use Rattle.records.proofs.rules.first_fault.Given as goal

abbrev pub invariant-loop-i : goal.invariant-loop-i
invariant-loop-i l = (l.m ≡ fragments l.table)
    × (decide (concat (tab (fragments l.table) (rules_of l.gapless l.n l.table))) (accepted (fragments l.table)) ≡ from_row (rules_of l.gapless l.n l.table) (accepted (fragments l.table)) l.i l.m)
