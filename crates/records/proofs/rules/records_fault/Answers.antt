use Rattle.records.specs.Rules.{table_rules}
use Rattle.records.specs.Algorithm.Kept.{rules_of}
use Rattle.records.proofs.rules.records_fault.Goals as goal

pub returns : goal.returns
unfolding table_rules rules_of
returns c = c.first_fault.ensures
