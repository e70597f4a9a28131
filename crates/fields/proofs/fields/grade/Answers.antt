use Rattle.fields.specs.Record.{grade_of}
use native.Mathlib.Omega.{arith}
use Rattle.fields.proofs.fields.grade.Goals as goal

pub returns : goal.returns
unfolding grade_of
returns c = omega arith
