use Rattle.records.specs.Rules.{gapless_table_rules}
use Rattle.records.specs.Algorithm.Kept.{rules_of}
use Rattle.records.proofs.rules.gapless_fault.Goals as goal

pub returns : goal.returns
unfolding gapless_table_rules rules_of
returns c = c.first_fault.ensures
