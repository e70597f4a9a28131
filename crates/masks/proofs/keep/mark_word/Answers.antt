-- `keep::mark_word` meets its contract. The invariant: the word has the marks of the places passed.
use borrow.Author.Rules.{rules}
use mathlib.Core.Bool.{Bool}
use mathlib.Core.Path.{refl, ap}
use Prim.Native.Nat.{ℕ, ◌+◌}
use lib.Dec.{ltb}
use Rattle.below.specs.Below.{◌<?◌}
use Rattle.conflicts.specs.Choice.{marked}
use Rattle.places.specs.Algorithm.Words.{word_of}
use Rattle.places.proofs.WordLaws.{word_below, word_next, word_end}
use Rattle.masks.proofs.keep.mark_word.Goals as goal

pub loop-b-init : goal.loop-b-init
unfolding word_of
loop-b-init c = refl

pub with_bit-word-requires : goal.with_bit-word-requires
with_bit-word-requires c =
    let a = c.args in
    (search rules, word_below c.loop-b.b (λ k. marked a.marks.now (a.start + k)) c.loop-b.invariant)

pub loop-b-preserved : goal.loop-b-preserved
unfolding marked ◌<?◌
loop-b-preserved c =
    let a = c.args in
    let p : ℕ → Bool = λ k. marked a.marks.now (a.start + k) in
    word_next c.loop-b.b p c.loop-b.invariant (ap (λ (x : ℕ). ltb 0 x) c.byte.ensures) c.with_bit-word.ensures

pub returns : goal.returns
returns c =
    let a = c.args in
    word_end c.loop-b.b 64 (λ k. marked a.marks.now (a.start + k)) c.loop-b.auto.b-end c.loop-b-test.false c.loop-b.invariant
