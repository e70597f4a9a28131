-- `patterns::entered_at` meets its contract.
-- Assumes nothing.
use mathlib.Core.Path.{sym, ap, ap₂, subst, ◌∙◌}
use Prim.Native.Nat.{ℕ, ◌+◌, ◌*◌, ◌-◌, ◌^◌, ◌%◌, ◌<◌, min, zero-le}
use native.Mathlib.Omega.{arith}
use borrow.Author.Rules.{rules}
use Rattle.std.proofs.Common.{lit<}
use Rattle.below.specs.Below.{nth}
use Rattle.ranks.specs.Algorithm.Weight.{place}
use Rattle.ranks.specs.Algorithm.Lent.{weights_in}
use Rattle.patterns.specs.Algorithm.Patterns.{PatternRoom}
use Rattle.patterns.proofs.RoomLaws.{shl, in-range, alone-value, enter-fits, entered-clear, entered-set, clear_room}
use Rattle.patterns.proofs.patterns.entered_at.Goals as goal
use Rattle.patterns.proofs.patterns.entered_at.Goals.{Then-mask-b-eq0}

-- the mask with the digit set is one of the table's
other_at : (c : Then-mask-b-eq0) → c.args.mask + 1 * 2 ^ c.args.b % 2 ^ 64 < 256
other_at c = rw (shl c.args.b c.requires.1) (in-range c.args.b c.args.mask c.requires.1 c.requires.2 c.if-mask-b-eq0.true)

pub get-other-requires : goal.get-other-requires
get-other-requires c = (lit< tt, other_at (goal.at.get-other-requires c).Then-mask-b-eq0)

pub plus-requires : goal.plus-requires
plus-requires c =
    let a = c.args in
    enter-fits a.out c.get-other.result a.f (search rules) (search rules) c.requires.0 c.get-other.ensures (c.requires.4.room (a.mask + 1 * 2 ^ a.b % 2 ^ 64) (omega arith) (other_at (goal.at.plus-requires c).Then-mask-b-eq0))

pub returns-then-mask-b-eq0 : goal.returns-then-mask-b-eq0
returns-then-mask-b-eq0 c =
    let a = c.args in
    let v = nth (weights_in a.t.now) in
    let e = c.if-mask-b-eq0.true in
    let is = c.lesser.ensures ∙ ap₂ min c.get.ensures (c.plus.ensures ∙ ap₂ ◌+◌ (alone-value a.out a.f c.requires.0) (c.get-other.ensures ∙ ap (λ (x : ℕ). v (a.mask + x)) (shl a.b c.requires.1))) in
    (is ∙ sym (entered-clear a.b (place a.f) v a.mask e), subst (PatternRoom 0) (sym is) (clear_room a.b a.f a.mask v c.requires.1 c.requires.2 e c.requires.3 c.requires.4))

pub returns-else-mask-b-eq0 : goal.returns-else-mask-b-eq0
returns-else-mask-b-eq0 c =
    let a = c.args in
    let v = nth (weights_in a.t.now) in
    let ne = c.if-mask-b-eq0.false in
    let is = c.get-else-mask-b-eq0.ensures ∙ ap (λ (x : ℕ). v (a.mask - x)) (shl a.b c.requires.1) in
    let lt = c.requires.2 in
    (is ∙ sym (entered-set a.b (place a.f) v a.mask ne), subst (PatternRoom 0) (sym is) (c.requires.3.room (a.mask - 2 ^ a.b) zero-le (omega arith)))
