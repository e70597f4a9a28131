use mathlib.Core.Path.{sym, ap, ◌∙◌}
use mathlib.Core.Bool.{not}
use Prim.Native.Nat.{◌-◌}
use native.Mathlib.Omega.{arith}
use Rattle.below.specs.Below.{◌and◌, ◌or◌, ◌<?◌, isnt}
use Rattle.records.specs.Rules.{has_open_end}
use Rattle.below.proofs.SearchLaws.{<?-true, <?-false}
use Rattle.records.proofs.SpanLaws.{hole-is, a_call, a-hole}
use Rattle.records.proofs.spans.open_end.Goals as goal

pub returns-else-k-gt0 : goal.returns-else-k-gt0
unfolding has_open_end ◌and◌ ◌<?◌
returns-else-k-gt0 c = rw (← c.span.ensures, ← c.from-k.ensures, <?-false 0 c.from-k.result (omega arith))

pub has-requires-else-not-has : goal.has-requires-else-not-has
has-requires-else-not-has c = let e = c.span.ensures in let f = c.from-k.ensures in let p = c.requires.0 in omega arith

pub returns-then-not-has : goal.returns-then-not-has
unfolding has_open_end ◌and◌ ◌or◌
returns-then-not-has c =
    rw (← c.span.ensures, ← c.from-k.ensures, <?-true 0 c.from-k.result (omega arith), a-hole c.args.part.now c.requires.1 0 (omega arith) (sym c.has.ensures ∙ c.if-not-has.true)) (ap not c.if-not-has.true)

pub returns-else-not-has : goal.returns-else-not-has
unfolding has_open_end ◌and◌ ◌or◌ isnt
returns-else-not-has c =
    let e = c.span.ensures in
    let f = c.from-k.ensures in
    let p = c.requires.0 in
    let first = a_call c.args.part.now c.requires.1 0 (omega arith) (sym c.has.ensures ∙ c.if-not-has.false) in
    rw (← e, ← f, <?-true 0 c.from-k.result (omega arith), first) (ap not c.has-else-not-has.ensures ∙ sym (hole-is c.args.part.now c.requires.1 (c.from-k.result - 1) (omega arith)))
