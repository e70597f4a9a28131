-- `haplotypes::fill_haplotype` meets its contract. The invariant: the columns passed have their codes.
use mathlib.Core.Path.{ap, ◌∙◌}
use lib.ListN.{length}
use Rattle.below.specs.Below.{tab}
use Rattle.below.proofs.FillLaws.{filled_more, filled-all}
use Rattle.conflicts.specs.Choice.{marked}
use Rattle.places.specs.declared.lines.Line.{Line}
use Rattle.phasing.specs.Algorithm.Haplotypes.{line_code, side_codes}
use Rattle.phasing.proofs.haplotypes.fill_haplotype.Goals as goal

pub loop-c-preserved : goal.loop-c-preserved
unfolding line_code marked
loop-c-preserved c = filled_more _ _ c.loop-c.c c.loop-c.row c.code.result c.loop-c.invariant c.loop-c-test.true c.code.ensures

pub returns : goal.returns
unfolding side_codes
returns c =
    let cols = c.args.cols.now in
    filled-all _ _ c.loop-c.c c.loop-c.row c.loop-c.invariant c.loop-c-test.false ∙ ap (λ (x : Line). tab (length cols) (line_code x cols)) c.merged-line.ensures
