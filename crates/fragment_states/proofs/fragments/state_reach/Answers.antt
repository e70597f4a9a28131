-- `fragments::state_reach` meets its contract.
-- Assumes nothing.
use native.Mathlib.Omega.{arith}
use Rattle.fragment_states.proofs.ReadLaws.{state-none, state-some}
use Rattle.fragment_states.proofs.fragments.state_reach.Goals as goal

pub returns-then-s-eq0 : goal.returns-then-s-eq0
returns-then-s-eq0 c = λ m. state-none _ _ c.if-s-eq0.true

pub returns-else-s-eq0 : goal.returns-else-s-eq0
returns-else-s-eq0 c =
    let a = c.args in
    λ m. state-some m a.n a.masks.now a.s (let h = c.if-s-eq0.false in omega arith) c.line_end.ensures
