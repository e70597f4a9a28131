-- `columns::column_mixed` meets its contract.
-- Assumes nothing.
use mathlib.Core.Path.{ap, ◌∙◌}
use Rattle.conflicts.specs.declared.Tally.{Tally}
use Rattle.conflicts.specs.Tally.{tallied, mixed_tally}
use Rattle.snp_removal.proofs.PairLaws.{tally-is}
use Rattle.snp_removal.proofs.columns.column_mixed.Goals as goal

pub returns : goal.returns
returns c =
    c.is_mixed.ensures
    ∙ ap mixed_tally (c.with_call-2.ensures ∙ ap (λ (t : Tally). tallied t c.letter_call-b.result) (c.with_call.ensures ∙ ap (λ (t : Tally). tallied t c.letter_call-a.result) c.empty.ensures))
    ∙ tally-is c.args.columns.now c.args.c c.any.ensures c.any-2.ensures c.letter_call-a.ensures c.letter_call-b.ensures
