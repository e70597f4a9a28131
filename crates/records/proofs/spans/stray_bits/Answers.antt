use mathlib.Core.Path.{ap, ◌∙◌}
use Rattle.below.specs.Below.{◌<?◌}
use Rattle.places.specs.Algorithm.Places.{occupied}
use Rattle.below.proofs.SearchLaws.{<?-true}
use Rattle.records.proofs.SpanLaws.{stray-graded, stray-called}
use Rattle.records.proofs.spans.stray_bits.Goals as goal

pub returns-then-grade-gt15 : goal.returns-then-grade-gt15
unfolding ◌<?◌
returns-then-grade-gt15 c = <?-true _ _ c.if-grade-gt15.true ∙ stray-graded c.args.part.now c.requires.0 c.requires.1 c.grade.ensures c.if-grade-gt15.true

pub returns-else-grade-gt15 : goal.returns-else-grade-gt15
returns-else-grade-gt15 c =
    c.any.ensures ∙ ap occupied c.without.ensures ∙ stray-called c.args.part.now c.requires.0 c.requires.1 c.grade.ensures c.if-grade-gt15.false
