-- `haplotypes::code` meets its contract.
-- Assumes nothing.
use mathlib.Core.Path.{refl, sym, ◌∙◌}
use native.Mathlib.Nat.{pos_of_ne-zero}
use native.Mathlib.Omega.{arith}
use Rattle.below.proofs.SearchLaws.{<?-true, <?-false}
use Rattle.masks.specs.Algorithm.Masks.{code_in}
use Rattle.phasing.proofs.haplotypes.code.Goals as goal

pub returns-then-keep-eq0 : goal.returns-then-keep-eq0
returns-then-keep-eq0 c = rw (<?-false 0 c.args.keep (omega (arith, c.if-keep-eq0.true))) refl

pub returns-then-has : goal.returns-then-has
unfolding code_in
returns-then-has c = rw (<?-true 0 _ (pos_of_ne-zero c.if-keep-eq0.false), sym c.has.ensures ∙ c.if-has.true) refl

pub returns-then-has-2 : goal.returns-then-has-2
unfolding code_in
returns-then-has-2 c = rw (<?-true 0 _ (pos_of_ne-zero c.if-keep-eq0.false), sym c.has.ensures ∙ c.if-has.false, sym c.has-else-has.ensures ∙ c.if-has-2.true) refl

pub returns-else-has-2 : goal.returns-else-has-2
unfolding code_in
returns-else-has-2 c = rw (<?-true 0 _ (pos_of_ne-zero c.if-keep-eq0.false), sym c.has.ensures ∙ c.if-has.false, sym c.has-else-has.ensures ∙ c.if-has-2.false) refl
