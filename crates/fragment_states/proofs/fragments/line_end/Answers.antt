-- `fragments::line_end` meets its contract.
-- Assumes nothing.
use mathlib.Core.Path.{◌∙◌}
use native.Mathlib.Omega.{arith}
use Rattle.fields.specs.Writing.{calls_end_of}
use Rattle.records.proofs.ExtentLaws.{calls, end_below-le}
use Rattle.masks.specs.Algorithm.Masks.{code_in}
use Rattle.fragment_states.proofs.ReadLaws.{calls-end}
use Rattle.fragment_states.proofs.fragments.line_end.Goals as goal

pub overflow_cast-result : goal.overflow_cast-result
unfolding calls_end_of
overflow_cast-result c =
    let e = c.end.ensures ∙ calls-end c.args.n c.args.line c.requires c.calls_below.ensures in
    let h = end_below-le c.args.n (calls (code_in c.args.line)) in
    record { fits = omega (arith, c.requires) }

pub returns : goal.returns
returns c = c.end.ensures ∙ calls-end c.args.n c.args.line c.requires c.calls_below.ensures
