use Prim.Native.Nat.{◌+◌}
use mathlib.Core.Path.{◌≡◌}
use Rattle.below.specs.Below.{max_below}
use Rattle.fields.specs.Record.{start_of, span_of}
use Rattle.fields.specs.Table.{record_bytes_at}
use Rattle.fields.proofs.table.column_count.Given as goal

abbrev pub invariant-loop-i : goal.invariant-loop-i
invariant-loop-i l = l.n ≡ max_below l.i (λ j. start_of (record_bytes_at l.table j) + span_of (record_bytes_at l.table j))
