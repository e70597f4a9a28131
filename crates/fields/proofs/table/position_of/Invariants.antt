use Rattle.below.specs.Below.{◌=?◌}
use Rattle.fields.specs.Record.{tag_of}
use Rattle.fields.specs.Table.{record_bytes_at}
use Rattle.below.proofs.SearchLaws.{NoneBelow}
use Rattle.fields.proofs.table.position_of.Given as goal

abbrev pub invariant-loop-i : goal.invariant-loop-i
invariant-loop-i l = NoneBelow l.i (λ j. tag_of (record_bytes_at l.table j) =? l.sought)
