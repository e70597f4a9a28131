use mathlib.Core.Path.{sym, ap, ◌∙◌}
use Rattle.records.specs.Outcome.{accepted}
use Rattle.records.proofs.RuleLaws.{decide-accepted}
use Rattle.records.proofs.AcceptedLaws.{sized-count}
use Rattle.records.proofs.table.SizedTable.sound.Goals as goal

pub invariant_of-result : goal.invariant_of-result
invariant_of-result c = record { records = decide-accepted _ _ _ _ (sym c.in_ok-records_fault.ensures) ∙ ap accepted (sized-count c.args.self.sizes) }
