-- `haplotypes::merged` meets its contract. The invariant: the lines of the fragments passed are merged.
use mathlib.Core.Path.{refl, ◌∙◌}
use Rattle.below.specs.Below.{nth}
use Rattle.below.proofs.SearchLaws.{=?-true, =?-false}
use Rattle.phasing.specs.Algorithm.Haplotypes.{merged_line}
use Rattle.phasing.proofs.HaplotypeLaws.{merged-more}
use Rattle.phasing.proofs.haplotypes.merged.Goals as goal
use Rattle.phasing.proofs.haplotypes.merged.Goals.{then-side-s, else-side-s}

pub loop-i-init : goal.loop-i-init
unfolding merged_line
loop-i-init c = refl

pub loop-i-preserved : goal.loop-i-preserved
loop-i-preserved c =
    let a = c.args in
    let i = c.loop-i.i in
    merged-more a.masks.now a.sides.now a.s i c.loop-i.invariant (elim c.if-side-s.branch [
      | then-side-s w ↦ rw (=?-true (nth a.sides.now i) a.s w.if-side-s.true) (w.line-is ∙ w.either-line.ensures)
      | else-side-s w ↦ rw (=?-false (nth a.sides.now i) a.s w.if-side-s.false) w.line-is
    ])
