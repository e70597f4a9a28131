use Rattle.fields.specs.Record.{span_of}
use native.Mathlib.Omega.{arith}
use Rattle.fields.proofs.fields.span.Goals as goal

pub returns : goal.returns
unfolding span_of
returns c = omega arith
