-- `quick_find::Fragments::join` meets its contract.
-- Assumes nothing.
use mathlib.Core.Path.{refl}
use Rattle.components.proofs.StepLaws.{says-yes}
use Rattle.components.proofs.PassLaws.{pair-removed, pair-agrees, pair-joined}
use Rattle.components.proofs.quick_find.Fragments.join.Goals as goal
use Rattle.components.proofs.quick_find.Fragments.join.Goals.{then-self-j-eq0-via-then-self-j-eq0, then-self-j-eq0-via-else-self-j-eq0+then-not-conflict_kept}

pub returns-then-self-j-eq0 : goal.returns-then-self-j-eq0
returns-then-self-j-eq0 c =
    let f = c.args.self in
    let a = c.args in
    let p = c.requires in
    elim c.then-self-j-eq0.branch [
      | then-self-j-eq0-via-then-self-j-eq0 w ↦ says-yes (pair-removed f.masks.now f.keep f.frags.now p.0.few a.i a.j p.2 p.5 w.if-self-j-eq0.true)
      | then-self-j-eq0-via-else-self-j-eq0+then-not-conflict_kept w ↦ says-yes (pair-agrees f.masks.now f.keep f.frags.now p.0.few a.i a.j p.2 p.5 p.4 refl w.conflict_kept.ensures w.if-not-conflict_kept.true)
    ]

pub returns : goal.returns
returns c =
    let f = c.args.self in
    let a = c.args in
    let p = c.requires in
    pair-joined f.masks.now f.keep f.frags.now p.0.few a.i a.j p.2 p.5 p.4 refl c.conflict_kept.ensures c.if-not-conflict_kept.false
    p.3 c.if-self-j-eq0.false (rw p.0.labelled at c.join_pair.ensures)
