use mathlib.Core.Path.{◌∙◌, ap}
use Rattle.fields.specs.Grades.{weight_of}
use Rattle.matrix.proofs.CellLaws.{part-weight}
use Rattle.matrix.proofs.weights.weight_at.Goals as goal

pub returns : goal.returns
returns c = c.weight.ensures.0 ∙ ap weight_of c.grade.ensures ∙ part-weight _ _ _ c.record_at.ensures
