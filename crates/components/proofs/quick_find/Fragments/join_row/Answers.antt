-- `quick_find::Fragments::join_row` meets its contract. The invariant is the state after the pairs passed.
use borrow.Author.Rules.{rules}
use mathlib.Core.Path.{refl}
use native.Mathlib.Omega.{arith}
use Rattle.components.proofs.StepLaws.{says-yes}
use Rattle.components.proofs.PassLaws.{is-marked, row-removed, row-begin, row-end}
use Rattle.components.proofs.quick_find.Fragments.join_row.Goals as goal

pub returns-then-self-i-eq0 : goal.returns-then-self-i-eq0
returns-then-self-i-eq0 c =
    let f = c.args.self in
    let p = c.requires in
    says-yes (row-removed f.masks.now f.keep f.frags.now p.0.few c.args.i c.if-self-i-eq0.true p.2)

pub loop-j-init : goal.loop-j-init
loop-j-init c =
    let f = c.args.self in
    let p = c.requires in
    row-begin f.masks.now f.keep f.frags.now p.0.few c.args.i p.2

pub join-requires : goal.join-requires
join-requires c =
    let f = c.args.self in
    let p = c.requires in
    let lp = c.loop-j in
    let r = p.0 in (
      record { few = r.few; sided = (let e = r.sided in search rules); labelled = (let e = r.labelled in search rules) },
      omega (arith, lp.auto.j),
      c.loop-j-test.true,
      is-marked f.masks.now f.keep f.frags.now c.args.i c.if-self-i-eq0.false,
      refl,
      lp.invariant,
    )

pub returns : goal.returns
returns c =
    let f = c.args.self in
    let lp = c.loop-j in
    says-yes (row-end f.masks.now f.keep f.frags.now c.requires.0.few c.args.i lp.j (lp.auto.j-end (omega (arith, c.requires.1))) c.loop-j-test.false lp.invariant)
