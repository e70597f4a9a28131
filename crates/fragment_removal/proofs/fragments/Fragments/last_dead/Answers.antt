-- `fragments::Fragments::last_dead` meets its contract.
-- Assumes nothing.
use mathlib.Core.Path.{subst}
use Prim.Native.Nat.{ℕ}
use native.Mathlib.Omega.{arith}
use Rattle.masks.specs.Algorithm.Masks.{words_grid}
use Rattle.fragment_states.specs.Algorithm.Fragments.{state_reach_of}
use Rattle.fragment_removal.specs.Algorithm.Holding.{Behind}
use Rattle.fragment_removal.proofs.fragments.Fragments.last_dead.Goals as goal

pub line_start-start-requires : goal.line_start-start-requires
unfolding words_grid
line_start-start-requires c = c.args.self.now.prepared.masks.narrow

pub last_behind-requires : goal.last_behind-requires
unfolding state_reach_of
last_behind-requires c = (c.args.self.now.prepared.reaching.begins 0 (omega arith), let h = c.requires in let m = c.min.ensures in omega arith)

pub returns : goal.returns
returns c =
    let last = c.last_behind in
    let most = c.min.ensures in
    let a = c.args in
    (let h = last.ensures.0 in omega arith, let h = last.ensures.0 in omega arith, subst (λ (x : ℕ). Behind a.self.now.reaches.now x last.result) c.line_start-start.ensures last.ensures.1)
