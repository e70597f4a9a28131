-- `grants::slot_one` meets its contract.
-- Assumes nothing.
use mathlib.Core.Path.{sym, ◌∙◌}
use Rattle.matrix.specs.Algorithm.Matrix.{matrix_grid}
use Rattle.slots.proofs.GrantLaws.{free-is, spans-of, grant, pass}
use Rattle.slots.proofs.grants.slot_one.Goals as goal

pub free_slot-requires : goal.free_slot-requires
unfolding matrix_grid
free_slot-requires c =
    let a = c.args in
    spans-of (matrix_grid a.m a.n a.cells.now) a.spans.now c.requires.1 c.requires.0.rows c.requires.0.columns c.requires.5.low

pub returns-then-spans-f : goal.returns-then-spans-f
unfolding matrix_grid
returns-then-spans-f c =
    let a = c.args in
    grant (matrix_grid a.m a.n a.cells.now) c.requires.0.rows a.slots.now a.c a.f c.free_slot.result c.requires.2 c.requires.3 c.requires.4
    (sym (c.requires.1.begins a.f c.requires.4) ∙ c.if-spans-f.true) (c.free_slot.ensures ∙ free-is (matrix_grid a.m a.n a.cells.now) a.spans.now c.requires.1 a.slots.now a.c _) c.requires.5

pub returns-else-spans-f : goal.returns-else-spans-f
unfolding matrix_grid
returns-else-spans-f c =
    let a = c.args in
    pass (matrix_grid a.m a.n a.cells.now) c.requires.0.rows a.slots.now a.c a.f c.requires.4 (λ e. c.if-spans-f.false (c.requires.1.begins a.f c.requires.4 ∙ e)) c.requires.5
