use Rattle.fields.proofs.FieldLaws.{tag-bytes}
use native.Mathlib.Omega.{arith}
use Rattle.fields.proofs.fields.tag.Goals as goal

pub returns : goal.returns
returns c = omega (arith, tag-bytes c.args.part.now)
