-- `fragments::may_join` meets its contract.
-- Assumes nothing.
use mathlib.Core.Path.{ap, ◌∙◌}
use native.Mathlib.Omega.{arith}
use Rattle.below.specs.Below.{bit}
use Rattle.fragment_states.proofs.ReadLaws.{byte-bit, join-none, join-some}
use Rattle.fragment_states.proofs.fragments.may_join.Goals as goal
use Rattle.fragment_states.proofs.fragments.may_join.Goals.{then-s-eq0, else-s-eq0}

pub returns : goal.returns
returns c =
    let a = c.args in
    c.from.ensures
    ∙ byte-bit _
    ∙ ap bit (elim c.if-s-eq0.branch [
      | then-s-eq0 w ↦ w.from-is ∙ join-none a.masks.now a.s a.i w.if-s-eq0.true
      | else-s-eq0 w ↦ w.from-is ∙ join-some a.masks.now a.s a.i (let h = w.if-s-eq0.false in omega arith) w.positions_agree.ensures
    ])
