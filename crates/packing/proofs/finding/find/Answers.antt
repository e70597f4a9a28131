-- `finding::find` meets its contract.
-- Assumes nothing.
use mathlib.Core.Path.{subst}
use Prim.Native.Nat.{ℕ}
use Rattle.fields.specs.Table.{part_start, part_length, Part}
use Rattle.conflicts.specs.Services.{find_leaves}
use Rattle.packing.proofs.finding.find.Goals as goal

pub returns : goal.returns
unfolding find_leaves
returns c =
    let table = c.args.table in
    subst (λ (i : ℕ). Part table (part_start table.now i) (part_length table.now i) c.record_at.result) c.position_of-i.ensures c.record_at.ensures
