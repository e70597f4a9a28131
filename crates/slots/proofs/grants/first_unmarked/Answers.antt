-- `grants::first_unmarked` meets its contract. The loop's invariant: every slot passed has a mark.
use mathlib.Core.Path.{sym}
use native.Mathlib.Omega.{arith}
use Rattle.below.specs.Below.{isnt}
use Rattle.below.proofs.SearchLaws.{none_more, first-hit, first-none}
use Rattle.slots.proofs.grants.first_unmarked.Goals as goal

pub returns-then-not-marks-b : goal.returns-then-not-marks-b
unfolding isnt
returns-then-not-marks-b c = let l = c.loop-b in sym (first-hit 8 _ l.b c.loop-b-test.true l.invariant (rw c.if-not-marks-b.true))

pub loop-b-preserved : goal.loop-b-preserved
unfolding isnt
loop-b-preserved c = let l = c.loop-b in none_more l.b _ l.invariant (rw c.if-not-marks-b.false)

pub returns : goal.returns
returns c = let l = c.loop-b in sym (first-none _ _ l.b (omega arith) l.invariant)
