use mathlib.Core.List.{List}
use Prim.Native.Nat.{ℕ, ◌+◌}
use mathlib.Core.Path.{◌≡◌, refl, ap, ◌∙◌}
use Rattle.below.specs.Below.{max_below}
use Rattle.fields.specs.Record.{start_of, span_of}
use Rattle.fields.specs.Table.{fragments, column_count_of}
use Rattle.below.proofs.BelowLaws.{max-more}
use Rattle.fields.proofs.PartLaws.{part-record}
use native.Mathlib.Omega.{arith}
use Rattle.fields.proofs.table.column_count.Goals as goal

pub loop-i-init : goal.loop-i-init
unfolding max_below
loop-i-init c = refl

pub loop-i-preserved : goal.loop-i-preserved
unfolding fragments
loop-i-preserved c =
    let lp = c.loop-i in
    let same = part-record _ lp.i _ c.record_at.ensures c.loop-i-test.true in
    max-more lp.i _ lp.invariant (c.end_column.ensures ∙ ap (λ (r : List ℕ). start_of r + span_of r) same) c.max-n.ensures

pub returns : goal.returns
unfolding column_count_of fragments
returns c = let e : c.loop-i.i ≡ fragments c.args.table.now = omega arith in rw (← e) c.loop-i.invariant
