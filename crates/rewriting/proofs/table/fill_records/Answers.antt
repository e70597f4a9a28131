-- `table::fill_records` meets its contract. The invariant: the records passed are the new ones.
use borrow.Rule.Slice.PartMut.{put_mid, same_len_mid, mid_len}
use Prim.Native.Nat.{ℕ, ◌+◌, ◌*◌, ◌-◌, ◌<◌}
use mathlib.Core.Path.{◌≡◌, ap, subst, ◌∙◌}
use native.Mathlib.Nat.{add-sub_cancel_left}
use native.Mathlib.Omega.{arith}
use lib.ListN.{length}
use Rattle.fields.specs.Table.{fragments}
use Rattle.fields.proofs.PartLaws.{part-record}
use Rattle.records.proofs.TableLaws.{length-record_bytes_at}
use Rattle.below.proofs.FillLaws.{Filled, filled-part, filled-all}
use Rattle.rewriting.proofs.RewriteLaws.{new_byte_of, record-written, records-written}
use Rattle.rewriting.proofs.table.fill_records.Goals as goal
use Rattle.rewriting.proofs.table.fill_records.Goals.{In-loop-i}

-- the turn's record is one of the table's
inside : (c : In-loop-i) → c.loop-i.i < fragments c.args.table.now
inside c = omega (arith, c.loop-i-test.true, c.requires.2)

pub fill_record-requires : goal.fill_record-requires
fill_record-requires c =
    let few = c.requires.1 in
    let l = c.loop-i in
    let s = l.invariant.sized in
    let lt = inside (goal.at.fill_record-requires c).In-loop-i in
    let from = l.i * 32 in
    (c.requires.0, omega arith, ap length (part-record _ _ _ c.record_at.ensures lt) ∙ length-record_bytes_at _ _ lt, mid_len from (from + 32) l.output (omega arith) ∙ add-sub_cancel_left from 32)

pub loop-i-preserved : goal.loop-i-preserved
loop-i-preserved c =
    let w = c.fill_record in
    let l = c.loop-i in
    let a = c.args in
    let lt = inside (goal.at.loop-i-preserved c).In-loop-i in
    let from = l.i * 32 in
    let e : from + 32 ≡ (l.i + 1) * 32 = omega arith in
    subst (λ (k : ℕ). Filled (fragments a.table.now * 32) (new_byte_of a.table.now a.cells.now) k (put_mid from (from + 32 - from) l.output w.new.output)) e
    (filled-part _ _ from 32 l.output w.new.output l.invariant (omega arith) (same_len_mid from (from + 32 - from) l.output w.new.output w.auto.output)
    (record-written a.table.now a.cells.now l.i (part-record _ _ _ c.record_at.ensures lt) w.ensures))

pub returns : goal.returns
returns c =
    let past = c.loop-i-test.false in
    let size = c.requires.2 in
    filled-all _ _ (c.loop-i.i * 32) c.loop-i.output c.loop-i.invariant (omega arith) ∙ records-written _ _
