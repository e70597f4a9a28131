-- `packing::tag_before` meets its contract.
-- Assumes nothing.
use mathlib.Core.Path.{◌≡◌, sym, ap, subst, ◌∙◌}
use mathlib.Core.Bool.{Bool, true, false}
use mathlib.Core.List.{List}
use Prim.Native.Nat.{ℕ, ◌<◌}
use native.Mathlib.Omega.{arith}
use lib.Dec.{eqb}
use lib.ListN.{length, get_or, take}
use Rattle.std.specs.List.{IsAnyAnswer}
use Rattle.std.proofs.lemmas.List.{get_or-take, length-take-le}
use Rattle.below.specs.Below.{◌=?◌, any_below}
use Rattle.below.proofs.SearchLaws.{any-hit, any_none}
use Rattle.records.specs.Rules.{tag_twice}
use Rattle.packing.proofs.packing.tag_before.Goals as goal

-- what `contains` says of the first numbers of a list
among : (xs : List ℕ) (i x : ℕ) (b : Bool) → i < length xs → IsAnyAnswer (λ y b. eqb y x ≡ b) (take i xs) b → b ≡ any_below i (λ h. get_or xs h 0 =? x)
unfolding ◌=?◌
among xs i x true h (k, below, hit) =
    let lt : k < i = subst (λ (n : ℕ). k < n) (length-take-le i xs (omega arith)) below in
    sym (any-hit i _ k lt (ap (λ (y : ℕ). y =? x) (sym (get_or-take i xs k 0 lt)) ∙ hit 0))
among xs i x false h none =
    sym (any_none i _ i (omega arith) (record { none_passes = λ k lt. ap (λ (y : ℕ). y =? x) (sym (get_or-take i xs k 0 lt)) ∙ none k 0 (omega arith) (subst (λ (n : ℕ). k < n) (sym (length-take-le i xs (omega arith))) lt) }))

pub returns : goal.returns
unfolding tag_twice
returns c = among _ _ _ _ c.requires c.contains.ensures.cases
