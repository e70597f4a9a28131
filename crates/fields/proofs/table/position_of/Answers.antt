use mathlib.Core.Path.{◌≡◌, sym, ap, ◌∙◌}
use Rattle.fields.specs.Record.{tag_of}
use Rattle.fields.specs.Table.{fragments, record_bytes_at, position}
use Rattle.fields.proofs.PartLaws.{part-record}
use Rattle.below.proofs.SearchLaws.{none_yet, none_more, first-hit, first-none, =?-true, =?-false}
use native.Mathlib.Omega.{arith}
use Rattle.fields.proofs.table.position_of.Goals as goal
use Rattle.fields.proofs.table.position_of.Goals.{After-tag}

-- the tag that the turn reads is that of record i
tag_read : (c : After-tag) → c.tag.result ≡ tag_of (record_bytes_at c.args.table.now c.loop-i.i)
unfolding fragments
tag_read c = c.tag.ensures ∙ ap tag_of (part-record _ c.loop-i.i _ c.record_at.ensures c.loop-i-test.true)

pub loop-i-init : goal.loop-i-init
loop-i-init c = none_yet _

pub returns-then-tag-sought : goal.returns-then-tag-sought
unfolding position fragments
returns-then-tag-sought c =
    let loop = c.loop-i in
    sym (first-hit _ _ loop.i c.loop-i-test.true loop.invariant (=?-true _ _ (sym (tag_read (goal.at.returns-then-tag-sought c).After-tag) ∙ c.if-tag-sought.true)))

pub loop-i-preserved : goal.loop-i-preserved
loop-i-preserved c = none_more _ _ c.loop-i.invariant (=?-false _ _ (λ e. c.if-tag-sought.false (tag_read (goal.at.loop-i-preserved c).After-tag ∙ e)))

pub returns : goal.returns
unfolding position fragments
returns c = sym (first-none _ _ c.loop-i.i (omega arith) c.loop-i.invariant)
