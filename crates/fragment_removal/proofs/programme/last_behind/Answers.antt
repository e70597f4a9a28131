-- `programme::last_behind` meets its contract. The loop's invariant: no state up to s reaches past the start.
use borrow.Author.Rules.{rules}
use mathlib.Core.Path.{◌≡◌, subst}
use native.Mathlib.Omega.{arith}
use Rattle.fragment_removal.specs.Algorithm.Holding.{Behind}
use Rattle.fragment_removal.proofs.DeadLaws.{behind-none, behind_more}
use Rattle.fragment_removal.proofs.programme.last_behind.Goals as goal

pub loop-s-init : goal.loop-s-init
loop-s-init c = behind-none c.args.reaches.now c.args.start c.requires.0

pub returns-then-start-reaches : goal.returns-then-start-reaches
returns-then-start-reaches c = (omega arith, c.loop-s.invariant)

pub loop-s-preserved : goal.loop-s-preserved
loop-s-preserved c =
    let l = c.loop-s in
    behind_more _ _ l.s l.invariant c.if-start-reaches.false

pub returns : goal.returns
returns c =
    let l = c.loop-s in
    (search rules, subst (Behind c.args.reaches.now c.args.start) (let e : l.s ≡ c.args.most = omega arith in e) l.invariant)
