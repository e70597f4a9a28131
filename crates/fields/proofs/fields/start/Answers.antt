use Rattle.fields.proofs.FieldLaws.{start-bytes}
use native.Mathlib.Omega.{arith}
use Rattle.fields.proofs.fields.start.Goals as goal

pub returns : goal.returns
returns c = omega (arith, start-bytes c.args.part.now)
