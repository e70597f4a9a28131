-- `masks::column_letters` meets its contract. The invariant: the two words have the letters of the fragments passed.
use borrow.Author.Rules.{rules}
use mathlib.Core.Path.{refl}
use Prim.Native.Nat.{◌+◌}
use Rattle.places.specs.Algorithm.Words.{word_of}
use Rattle.places.specs.Algorithm.Places.{has_place}
use Rattle.places.proofs.WordLaws.{word_below, word_next, word_end}
use Rattle.masks.specs.Algorithm.Masks.{line_at}
use Rattle.masks.proofs.masks.column_letters.Goals as goal

pub loop-k-init : goal.loop-k-init
unfolding word_of
loop-k-init c = (refl, refl)

pub with_bit-a-requires : goal.with_bit-a-requires
with_bit-a-requires c = let a = c.args in (search rules, word_below c.loop-k.k (λ b. has_place (line_at a.masks.now (a.start + b)).a a.c) c.loop-k.invariant.0)

pub with_bit-b-requires : goal.with_bit-b-requires
with_bit-b-requires c = let a = c.args in (search rules, word_below c.loop-k.k (λ b. has_place (line_at a.masks.now (a.start + b)).b a.c) c.loop-k.invariant.1)

pub loop-k-preserved : goal.loop-k-preserved
loop-k-preserved c =
    let a = c.args in
    let lp = c.loop-k in (
      word_next lp.k (λ b. has_place (line_at a.masks.now (a.start + b)).a a.c) lp.invariant.0 c.has.ensures c.with_bit-a.ensures,
      word_next lp.k (λ b. has_place (line_at a.masks.now (a.start + b)).b a.c) lp.invariant.1 c.has-in-loop-k.ensures c.with_bit-b.ensures,
    )

pub returns : goal.returns
returns c =
    let a = c.args in
    let lp = c.loop-k in
    record {
      a = word_end lp.k 64 (λ b. has_place (line_at a.masks.now (a.start + b)).a a.c) lp.auto.k-end c.loop-k-test.false lp.invariant.0;
      b = word_end lp.k 64 (λ b. has_place (line_at a.masks.now (a.start + b)).b a.c) lp.auto.k-end c.loop-k-test.false lp.invariant.1;
    }
