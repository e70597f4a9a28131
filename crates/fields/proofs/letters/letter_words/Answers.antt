-- `letters::letter_words` meets its contract. The invariant: the words have the letters of the bytes passed.
use borrow.Author.Rules.{rules}
use native.Mathlib.Omega.{arith}
use mathlib.Core.Path.{◌≡◌, refl, ◌∙◌}
use Prim.Native.Nat.{◌+◌, ◌*◌}
use Rattle.places.specs.Algorithm.Words.{word_of}
use Rattle.fields.specs.Record.{cell_of}
use Rattle.fields.specs.Algorithm.Letters.{has_a, has_b}
use Rattle.places.proofs.WordLaws.{word_below}
use Rattle.places.proofs.ShiftLaws.{few-fit}
use Rattle.fields.proofs.LetterLaws.{fours-a, fours-b, four-next}
use Rattle.fields.proofs.letters.letter_words.Goals as goal

pub loop-j-init : goal.loop-j-init
unfolding word_of
loop-j-init c = (refl, refl)

pub with_digits-a-requires : goal.with_digits-a-requires
with_digits-a-requires c =
    let a = c.args in
    let lp = c.loop-j in
    (search rules, word_below (4 * lp.j) (λ k. has_a (cell_of a.part.now (4 * a.from + k))) lp.invariant.0, few-fit 4 (4 * lp.j) (omega arith) (omega arith))

pub with_digits-b-requires : goal.with_digits-b-requires
with_digits-b-requires c =
    let a = c.args in
    let lp = c.loop-j in
    let h = c.fours.type_inv in
    (search rules, word_below (4 * lp.j) (λ k. has_b (cell_of a.part.now (4 * a.from + k))) lp.invariant.1, few-fit 4 (4 * lp.j) (omega arith) (omega arith))

pub loop-j-preserved : goal.loop-j-preserved
loop-j-preserved c =
    let a = c.args in
    let lp = c.loop-j in
    let four = c.from-four.ensures ∙ c.fours.ensures in
    let r = a.part.now in (
      four-next r has_a a.from lp.j (search rules) c.byte.ensures (fours-a _ four) lp.invariant.0 c.with_digits-a.ensures,
      four-next r has_b a.from lp.j (search rules) c.byte.ensures (fours-b _ four) lp.invariant.1 c.with_digits-b.ensures,
    )

pub returns : goal.returns
returns c =
    let lp = c.loop-j in
    let e : lp.j ≡ c.args.count = omega arith in
    record { a = rw e at lp.invariant.0; b = rw e at lp.invariant.1 }
