-- `packing::Fragments::fragments_fault` meets its contract. The loop's invariant: the verdict is that of the fragments from i on.
use mathlib.Core.Path.{◌≡◌, refl, sym, ap, ◌∙◌}
use Prim.Native.Nat.{ℕ, ◌+◌, ◌-◌}
use native.Mathlib.Omega.{arith}
use borrow.Author.Rules.{rules}
use Rattle.records.proofs.OutcomeLaws.{passed_on}
use Rattle.records.proofs.RuleLaws.{rows-begin, rows_end, row_kept, row-broken}
use Rattle.records.specs.Outcome.{accepted}
use Rattle.conflicts.specs.Services.{packed_start}
use Rattle.packing.specs.Algorithm.Sizes.{fragments_rules}
use Rattle.packing.proofs.packing.Fragments.fragments_fault.Goals as goal

one_less : (i : ℕ) → i + 1 - 1 ≡ i
one_less i = omega arith

pub loop-i-init : goal.loop-i-init
unfolding fragments_rules
loop-i-init c = (refl, λ h. absurd (omega arith), rows-begin _ _ _)

pub start_of-start-requires : goal.start_of-start-requires
start_of-start-requires c = let e = c.loop-i.invariant.0 in omega arith

pub fragment_fault-requires : goal.fragment_fault-requires
fragment_fault-requires c =
    record { i_in_bounds = search rules; starts = record { here = c.start_of-start.ensures; before = c.loop-i.invariant.1 } }

pub returns-in_err-fragment_fault : goal.returns-in_err-fragment_fault
returns-in_err-fragment_fault c =
    let lp = c.loop-i in
    passed_on _ _ c.from_residual.ensures ∙ sym (lp.invariant.2 ∙ row-broken _ _ lp.i _ 0 _ _ (omega arith) (sym c.in_err-fragment_fault.ensures))

pub loop-i-preserved : goal.loop-i-preserved
loop-i-preserved c =
    let lp = c.loop-i in
    (lp.invariant.0, λ h. c.start_of-start.ensures ∙ ap (packed_start _ _) (sym (one_less lp.i)), lp.invariant.2 ∙ row_kept _ _ lp.i _ 0 _ (omega arith) (sym c.in_ok-fragment_fault.ensures))

pub returns : goal.returns
returns c = ap accepted c.loop-i.invariant.0 ∙ sym (c.loop-i.invariant.2 ∙ rows_end _ _ c.loop-i.i _ (omega arith))
