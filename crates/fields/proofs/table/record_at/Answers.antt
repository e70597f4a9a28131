use lib.ListN.{length}
use Prim.Native.Nat.{◌*◌, ◌<◌, ◌≤◌}
use native.Mathlib.Nat.{add-sub_cancel_left, sub_self}
use Rattle.fields.specs.Table.{fragments}
use Rattle.fields.proofs.PartLaws.{place_at, bytes-at, start-in, start-past, length-in, length-past}
use mathlib.Core.Path.{sym, ◌∙◌}
use Rattle.fields.proofs.table.record_at.Goals as goal

pub returns-then-i-m : goal.returns-then-i-m
unfolding fragments
returns-then-i-m c =
    let a = c.args in
    let t = a.table.now in
    let h : a.i < fragments t = c.if-i-m.true in
    record {
      place = place_at a.table.ref_ptr.0 a.table.ref_ptr.1 (sym (start-in t a.i h));
      bytes = bytes-at t (add-sub_cancel_left (32 * a.i) 32 ∙ sym (length-in t a.i h)) (sym (start-in t a.i h));
    }

pub returns-else-i-m : goal.returns-else-i-m
unfolding fragments
returns-else-i-m c =
    let a = c.args in
    let t = a.table.now in
    let h : fragments t ≤ a.i = c.if-i-m.false in
    record {
      place = place_at a.table.ref_ptr.0 a.table.ref_ptr.1 (sym (start-past t a.i h));
      bytes = bytes-at t (sub_self (length t) ∙ sym (length-past t a.i h)) (sym (start-past t a.i h));
    }
