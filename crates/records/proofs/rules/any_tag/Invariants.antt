use Rattle.below.specs.Below.{◌=?◌}
use Rattle.fields.specs.Record.{tag_of}
use Rattle.fields.specs.Table.{record_bytes_at}
use Rattle.below.proofs.SearchLaws.{NoneBelow}
use Rattle.records.proofs.rules.any_tag.Given as goal

abbrev pub invariant-loop-h : goal.invariant-loop-h
invariant-loop-h l = NoneBelow l.h (λ j. tag_of (record_bytes_at l.table j) =? l.sought)
