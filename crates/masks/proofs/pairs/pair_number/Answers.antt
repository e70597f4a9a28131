-- `pairs::pair_number` meets its contract.
-- Assumes nothing.
use mathlib.Core.Path.{sym, ◌∙◌}
use native.Mathlib.Omega.{arith}
use Rattle.conflicts.specs.Choice.{marked}
use Rattle.masks.specs.Algorithm.Pairs.{pair_number_of}
use Rattle.masks.proofs.PairLaws.{first-removed, second-removed, both-kept}
use Rattle.masks.proofs.pairs.pair_number.Goals as goal
use Rattle.masks.proofs.pairs.pair_number.Goals.{then-byte-eq0-via-then-byte-eq0, then-byte-eq0-via-else-byte-eq0+then-byte-eq0-2}

pub returns-then-byte-eq0 : goal.returns-then-byte-eq0
unfolding pair_number_of marked
returns-then-byte-eq0 c =
    elim c.then-byte-eq0.branch [
      | then-byte-eq0-via-then-byte-eq0 w ↦ first-removed _ _ _ (sym c.byte.ensures ∙ w.if-byte-eq0.true)
      | then-byte-eq0-via-else-byte-eq0+then-byte-eq0-2 w ↦ second-removed _ _ _ (sym w.byte-else-byte-eq0.ensures ∙ w.if-byte-eq0-2.true)
    ]

pub overflow_cast-result : goal.overflow_cast-result
overflow_cast-result c = record { fits = omega (arith, c.conflict_count.ensures.most) }

pub returns : goal.returns
unfolding pair_number_of marked
returns c =
    c.conflict_count.ensures.number
    ∙ both-kept _ _ _ (λ e. c.if-byte-eq0.false (c.byte.ensures ∙ e)) (λ e. c.if-byte-eq0-2.false (c.byte-else-byte-eq0.ensures ∙ e))
