-- `programme::line_start` meets its contract.
-- Assumes nothing.
use mathlib.Core.Path.{◌∙◌}
use Rattle.fragment_states.proofs.ReadLaws.{first-called, never-called}
use Rattle.fragment_removal.proofs.programme.line_start.Goals as goal

pub returns-then-first-lt128 : goal.returns-then-first-lt128
returns-then-first-lt128 c =
    c.lowest-first.ensures ∙ first-called c.args.n c.args.line c.requires c.calls_below.ensures (rw (← c.lowest-first.ensures) c.if-first-lt128.true)

pub returns-else-first-lt128 : goal.returns-else-first-lt128
returns-else-first-lt128 c =
    never-called c.args.n c.args.line c.requires c.calls_below.ensures (rw (← c.lowest-first.ensures) c.if-first-lt128.false)
