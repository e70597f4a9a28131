use Prim.Native.Nat.{◌-◌}
use Rattle.below.specs.Below.{◌and◌}
use Rattle.records.specs.Rules.{is_out_of_order}
use Rattle.fields.proofs.PartLaws.{part-record}
use Rattle.below.proofs.SearchLaws.{<?-true, <?-false}
use native.Mathlib.Omega.{arith}
use Rattle.records.proofs.order.out_of_order.Goals as goal

pub returns-then-i-eq0 : goal.returns-then-i-eq0
unfolding is_out_of_order ◌and◌
returns-then-i-eq0 c = rw (<?-false 0 c.args.i (omega arith))

pub returns : goal.returns
unfolding is_out_of_order ◌and◌
returns c =
    let last = c.record_at-last in
    let part = c.record_at-part in
    let i = c.args.i in
    let here = part-record _ i _ part.ensures c.requires in
    let there = part-record _ (i - 1) _ last.ensures (omega arith) in
    rw (<?-true 0 i (omega arith), ← here, ← there, ← c.start.ensures, ← c.from.ensures, ← c.tag.ensures, ← c.start-2.ensures, ← c.from-2.ensures, ← c.tag-2.ensures) c.comes_before.ensures
