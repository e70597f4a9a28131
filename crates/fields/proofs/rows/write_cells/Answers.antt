use mathlib.Core.Path.{refl, ap, ◌∙◌}
use Prim.Native.Nat.{ℕ}
use native.Mathlib.Omega.{arith}
use Rattle.below.specs.Below.{tab}
use Rattle.fields.specs.Record.{cell_of}
use Rattle.below.proofs.FillLaws.{filled_more, filled-all}
use Rattle.fields.proofs.rows.write_cells.Goals as goal

pub loop-c-init : goal.loop-c-init
loop-c-init c = record { within = omega arith; sized = refl; done = λ j h. c.write_bytes.ensures j (omega arith) }

pub loop-c-preserved : goal.loop-c-preserved
loop-c-preserved c = let loop = c.loop-c in let e = loop.invariant.sized in filled_more _ _ loop.c loop.row _ loop.invariant (omega arith) c.cell.ensures

pub returns : goal.returns
returns c = filled-all _ _ c.loop-c.c c.loop-c.row c.loop-c.invariant (omega arith) ∙ ap (λ (n : ℕ). tab n (cell_of c.args.part.now)) c.write_bytes.auto.row
