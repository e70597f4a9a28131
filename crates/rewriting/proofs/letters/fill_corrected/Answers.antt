-- `letters::fill_corrected` meets its contract. The invariant: the rows passed hold their cells.
use borrow.Rule.Slice.PartMut.{put_mid, same_len_mid}
use mathlib.Core.Path.{◌≡◌, subst}
use Prim.Native.Nat.{ℕ, ◌+◌, ◌*◌, ◌-◌}
use native.Mathlib.Omega.{arith}
use Rattle.below.proofs.FillLaws.{Filled, filled-part, filled-all}
use Rattle.rewriting.specs.Algorithm.Letters.{lettered_at}
use Rattle.rewriting.proofs.letters.fill_corrected.Goals as goal

pub loop-i-preserved : goal.loop-i-preserved
loop-i-preserved c =
    let w = c.fill_row in
    let l = c.loop-i in
    let a = c.args in
    let lt = c.loop-i-test.true in
    let from = l.i * 128 in
    let e : from + 128 ≡ (l.i + 1) * 128 = omega arith in
    subst (λ (k : ℕ). Filled 16384 (lettered_at a.m a.n a.cells.now a.sides.now a.first.now a.second.now) k (put_mid from (from + 128 - from) l.corrected w.new.row)) e
    (filled-part 16384 _ from 128 l.corrected w.new.row l.invariant (omega arith) (same_len_mid from (from + 128 - from) l.corrected w.new.row w.auto.row) w.ensures)

pub returns : goal.returns
returns c = let past = c.loop-i-test.false in filled-all 16384 _ (c.loop-i.i * 128) c.loop-i.corrected c.loop-i.invariant (omega arith)
