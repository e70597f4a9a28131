use Prim.Native.Nat.{ℕ, ◌+◌, ◌*◌, ◌≤◌}
use native.Mathlib.Nat.{add-sub_cancel_left}
use mathlib.Core.Path.{◌≡◌, sym, ap, ◌∙◌}
use lib.ListN.{length, take, drop}
use Rattle.fields.specs.Record.{tag_of}
use Rattle.fields.specs.Table.{fragments, record_bytes_at}
use Rattle.below.proofs.SearchLaws.{none_yet, none_more, any-hit, any_none, =?-true, =?-false}
use borrow.Author.Rules.{rules}
use native.Mathlib.Omega.{arith}
use Rattle.records.proofs.rules.any_tag.Goals as goal
use Rattle.records.proofs.rules.any_tag.Goals.{After-tag, In-loop-h}

-- record h is whole, and its tag is what the turn reads
whole : (c : In-loop-h) → 32 * c.loop-h.h + 32 ≤ length c.args.table.now
unfolding fragments
whole c = let h = c.requires in omega arith

tag_read : (c : After-tag) → c.tag.result ≡ tag_of (record_bytes_at c.args.table.now c.loop-h.h)
unfolding record_bytes_at
tag_read c = c.tag.ensures ∙ ap (λ (k : ℕ). tag_of (take k (drop (32 * c.loop-h.h) c.args.table.now))) (add-sub_cancel_left (32 * c.loop-h.h) 32)

pub loop-h-init : goal.loop-h-init
loop-h-init c = none_yet _

pub returns-then-tag-sought : goal.returns-then-tag-sought
returns-then-tag-sought c = sym (any-hit _ _ c.loop-h.h (omega arith) (=?-true _ _ (sym (tag_read (goal.at.returns-then-tag-sought c).After-tag) ∙ c.if-tag-sought.true)))

pub loop-h-preserved : goal.loop-h-preserved
loop-h-preserved c = none_more _ _ c.loop-h.invariant (=?-false _ _ (λ e. c.if-tag-sought.false (tag_read (goal.at.loop-h-preserved c).After-tag ∙ e)))

pub returns : goal.returns
returns c = sym (any_none _ _ c.loop-h.h c.loop-h-test.false c.loop-h.invariant)

pub overflow_mul-from : goal.overflow_mul-from
overflow_mul-from c = let h = whole (goal.at.overflow_mul-from c).In-loop-h in search rules

pub overflow_add-from : goal.overflow_add-from
overflow_add-from c = let h = whole (goal.at.overflow_add-from c).In-loop-h in search rules

pub slice_bounds-tag-end : goal.slice_bounds-tag-end
slice_bounds-tag-end c = let h = whole (goal.at.slice_bounds-tag-end c).In-loop-h in search rules
