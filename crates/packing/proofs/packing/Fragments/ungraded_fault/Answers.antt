-- `packing::Fragments::ungraded_fault` meets its contract.
-- Assumes nothing.
use mathlib.Core.Path.{◌≡◌, refl, sym, ap, ◌∙◌}
use mathlib.Core.List.{[], ◌∷◌}
use Prim.Native.Nat.{ℕ, ◌-◌}
use native.Mathlib.Omega.{arith}
use Rattle.below.specs.Below.{◌=?◌, ◌<?◌, any_below}
use Rattle.records.specs.Outcome.{accepted}
use Rattle.fields.specs.Writing.{calls_span_of, without_calls, row_of}
use Rattle.records.specs.Rules.{rule, decide, earlier_rules}
use Rattle.records.proofs.RuleLaws.{rule-broken, rule-kept, decide-none}
use Rattle.below.proofs.SearchLaws.{=?-true, =?-false, <?-true, <?-false}
use Rattle.below.proofs.RowLaws.{product-fits}
use Rattle.conflicts.specs.Services.{packed_start, packed_tag, ungraded_rules}
use Rattle.packing.proofs.SizeLaws.{pack-n, pack-m, pack-row}
use Rattle.packing.proofs.FragmentLaws.{row-unknown, start-within, span-read, empty-read, order-read}
use Rattle.packing.proofs.packing.Fragments.ungraded_fault.Goals as goal
use Rattle.packing.proofs.packing.Fragments.ungraded_fault.Goals.{After-any_unknown, After-calls_end-end, After-out_of_order, Else-end-eq0, Else-end-start-gt96}

pub overflow_mul-from : goal.overflow_mul-from
overflow_mul-from c =
    record { fits = product-fits (pack-n c.args.self.sized) (let few = pack-m c.args.self.sized in let h = c.requires.i_in_bounds in omega arith) }

pub overflow_add-row : goal.overflow_add-row
overflow_add-row c = let r = (pack-row c.args.self.sized c.args.i c.requires.i_in_bounds) in omega arith

pub slice_bounds-row-end : goal.slice_bounds-row-end
slice_bounds-row-end c = (pack-row c.args.self.sized c.args.i c.requires.i_in_bounds)

-- 6, as it is read
unknown-is : (c : After-any_unknown)
    → let args = c.args in
    any_below args.self.n (λ k. 2 <? row_of args.self.n args.self.cells.now args.i k) ≡ c.any_unknown.result
unknown-is c = sym (row-unknown _ _ _ refl (pack-row c.args.self.sized c.args.i c.requires.i_in_bounds)) ∙ sym c.any_unknown.ensures

pub returns-then-any_unknown : goal.returns-then-any_unknown
unfolding ungraded_rules
returns-then-any_unknown c = rw c.at.ensures (sym (rule-broken _ _ _ (unknown-is (goal.at.returns-then-any_unknown c).After-any_unknown ∙ c.if-any_unknown.true)))

-- 17, from the end that is read
empty-is : (c : After-calls_end-end)
    → let args = c.args in
    without_calls args.self.n (row_of args.self.n args.self.cells.now args.i) ≡ (c.calls_end-end.result =? 0)
empty-is c =
    empty-read _ _ _ refl (pack-row c.args.self.sized c.args.i c.requires.i_in_bounds) c.requires.starts.here c.calls_end-end.ensures

-- 4, from the span that is read
span-is : (c : After-calls_end-end)
    → let args = c.args in
    (96 <? calls_span_of args.self.n (row_of args.self.n args.self.cells.now args.i)) ≡ (96 <? c.calls_end-end.result - args.start)
span-is c =
    ap (λ (s : ℕ). 96 <? s) (span-read _ _ _ refl (pack-row c.args.self.sized c.args.i c.requires.i_in_bounds) c.requires.starts.here c.calls_end-end.ensures)

pub returns-then-end-eq0 : goal.returns-then-end-eq0
unfolding ungraded_rules
returns-then-end-eq0 c = rw c.at-then-end-eq0.ensures (sym (rule-kept _ _ _ (unknown-is (goal.at.returns-then-end-eq0 c).After-any_unknown ∙ c.if-any_unknown.false) ∙ rule-broken _ _ _ (empty-is (goal.at.returns-then-end-eq0 c).After-calls_end-end ∙ =?-true _ _ c.if-end-eq0.true)))

-- 6 and 17 are kept
past-17 : (c : Else-end-eq0)
    → let args = c.args in
    decide (ungraded_rules args.self.n args.self.cells.now args.self.tags.now args.i) (accepted 0) ≡ decide (rule 4 args.i (96 <? calls_span_of args.self.n (row_of args.self.n args.self.cells.now args.i)) ∷ earlier_rules (packed_start args.self.n args.self.cells.now) (packed_tag args.self.tags.now) args.i) (accepted 0)
unfolding ungraded_rules
past-17 c = rule-kept _ _ _ (sym (row-unknown _ _ _ refl (pack-row c.args.self.sized c.args.i c.requires.i_in_bounds)) ∙ sym c.any_unknown.ensures ∙ c.if-any_unknown.false) ∙ rule-kept _ _ _ (empty-read _ _ _ refl (pack-row c.args.self.sized c.args.i c.requires.i_in_bounds) c.requires.starts.here c.calls_end-end.ensures ∙ =?-false _ _ c.if-end-eq0.false)

pub overflow_sub-end : goal.overflow_sub-end
overflow_sub-end c =
    start-within _ _ _ refl (pack-row c.args.self.sized c.args.i c.requires.i_in_bounds) c.requires.starts.here c.calls_end-end.ensures

pub returns-then-end-start-gt96 : goal.returns-then-end-start-gt96
returns-then-end-start-gt96 c = rw c.at-then-end-start-gt96.ensures (sym (past-17 (goal.at.returns-then-end-start-gt96 c).Else-end-eq0 ∙ rule-broken _ _ _ (span-is (goal.at.returns-then-end-start-gt96 c).After-calls_end-end ∙ <?-true _ _ c.if-end-start-gt96.true)))

-- 4 is kept too
past-4 : (c : Else-end-start-gt96)
    → let args = c.args in
    decide (rule 4 args.i (96 <? calls_span_of args.self.n (row_of args.self.n args.self.cells.now args.i)) ∷ earlier_rules (packed_start args.self.n args.self.cells.now) (packed_tag args.self.tags.now) args.i) (accepted 0) ≡ decide (earlier_rules (packed_start args.self.n args.self.cells.now) (packed_tag args.self.tags.now) args.i) (accepted 0)
past-4 c = rule-kept _ _ _ (ap (λ (s : ℕ). 96 <? s) (span-read _ _ _ refl (pack-row c.args.self.sized c.args.i c.requires.i_in_bounds) c.requires.starts.here c.calls_end-end.ensures) ∙ <?-false _ _ c.if-end-start-gt96.false)

pub returns-then-tag_before : goal.returns-then-tag_before
unfolding earlier_rules
returns-then-tag_before c = rw c.at-then-tag_before.ensures (sym (past-17 (goal.at.returns-then-tag_before c).Else-end-eq0 ∙ past-4 (goal.at.returns-then-tag_before c).Else-end-start-gt96 ∙ rule-broken _ _ _ (sym c.tag_before.ensures ∙ c.if-tag_before.true)))

-- 9 is kept too
past-9 : (c : After-out_of_order)
    → let args = c.args in
    decide (earlier_rules (packed_start args.self.n args.self.cells.now) (packed_tag args.self.tags.now) args.i) (accepted 0) ≡ decide (rule 13 args.i c.out_of_order.result ∷ []) (accepted 0)
unfolding earlier_rules
past-9 c =
    rule-kept _ _ _ (sym c.tag_before.ensures ∙ c.if-tag_before.false)
    ∙ ap (λ b. decide (rule 13 c.args.i b ∷ []) (accepted 0)) (order-read _ _ c.args.self.tags.now c.args.i c.requires.starts c.out_of_order.ensures)

pub returns-then-out_of_order : goal.returns-then-out_of_order
returns-then-out_of_order c = rw c.at-then-out_of_order.ensures (sym (past-17 (goal.at.returns-then-out_of_order c).Else-end-eq0 ∙ past-4 (goal.at.returns-then-out_of_order c).Else-end-start-gt96 ∙ past-9 (goal.at.returns-then-out_of_order c).After-out_of_order ∙ rule-broken _ _ _ c.if-out_of_order.true))

pub returns : goal.returns
returns c = sym (past-17 (goal.at.returns c).Else-end-eq0 ∙ past-4 (goal.at.returns c).Else-end-start-gt96 ∙ past-9 (goal.at.returns c).After-out_of_order ∙ rule-kept _ _ _ c.if-out_of_order.false ∙ decide-none _)
