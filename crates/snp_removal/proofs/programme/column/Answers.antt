-- `programme::column` meets its contract. The loop's invariant: the states below j have the column before them, and the others not yet.
use mathlib.Core.Path.{◌≡◌, sym, subst, ◌∙◌}
use Prim.Native.Nat.{◌+◌, ◌-◌, zero-le}
use native.Mathlib.Nat.{le_refl}
use native.Mathlib.Omega.{arith}
use Rattle.ranks.specs.Algorithm.Weight.{place, AtMost}
use Rattle.ranks.proofs.TableLaws.{put_as, sweep-none, sweep-more}
use Rattle.snp_removal.specs.Algorithm.Columns.{words_follow}
use Rattle.below.specs.Below.{nth}
use Rattle.ranks.specs.Algorithm.Tables.{Sweep}
use Rattle.ranks.specs.Algorithm.Lent.{weights_in}
use Rattle.snp_removal.specs.Algorithm.Programme.{if_follows}
use Rattle.snp_removal.proofs.StateLaws.{turn}
use Rattle.snp_removal.proofs.programme.column.Goals as goal

pub loop-j-init : goal.loop-j-init
loop-j-init c = record { out = c.single-out.ensures ∙ omega arith; swept = sweep-none _ _ 0 }

pub weight_at-r-requires : goal.weight_at-r-requires
weight_at-r-requires c =
    let l = c.loop-j in
    let i = c.args.i in
    let s0 = l.invariant.swept in (
      c.requires.0,
      omega arith,
      l.invariant.out,
      subst (AtMost 127 (place i - 1)) (sym (s0.rest l.j (λ lo hi. omega arith))) (c.requires.1.room l.j (omega arith)),
      subst (AtMost 127 (place i - 1)) (sym (s0.rest (i + 1) (λ lo hi. omega arith))) (c.requires.1.room (i + 1) (le_refl (i + 1))),
    )

pub loop-j-preserved : goal.loop-j-preserved
loop-j-preserved c =
    let l = c.loop-j in
    let a = c.args in
    let swept = l.invariant.swept in record {
      out = l.invariant.out;
      swept = sweep-more zero-le swept (put_as c.put.ensures.weights (c.weight_at-r.ensures.0 ∙ turn (words_follow a.columns.now l.j a.i) a.i l.j swept (omega arith)));
    }

pub returns : goal.returns
returns c =
    let l = c.loop-j in
    let a = c.args in
    let e : l.j ≡ a.i + 1 = omega arith in
    subst (Sweep (λ j. if_follows (words_follow a.columns.now j a.i) a.i (nth (weights_in a.t.now)) j) (nth (weights_in a.t.now)) (nth (weights_in l.t)) 0) e l.invariant.swept
