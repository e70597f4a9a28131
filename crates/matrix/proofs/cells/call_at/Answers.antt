-- `cells::call_at` meets its contract.
-- Assumes nothing.
use mathlib.Core.Path.{ap, ◌∙◌}
use Rattle.fields.specs.Record.{is_call_code}
use Rattle.matrix.proofs.cells.call_at.Goals as goal

pub returns : goal.returns
returns c = c.is_call.ensures ∙ ap is_call_code c.cell_at.ensures
