-- `table::new_code` meets its contract.
-- Assumes nothing.
use mathlib.Core.Path.{◌≡◌, ap, ◌∙◌}
use Prim.Native.Nat.{ℕ, ◌+◌, ◌*◌}
use native.Mathlib.Omega.{arith}
use lib.ListN.{get_or}
use Rattle.fields.specs.Record.{start_of}
use Rattle.rewriting.proofs.RewriteLaws.{code-within, code-after}
use Rattle.rewriting.proofs.table.new_code.Goals as goal

pub returns-then-q-from : goal.returns-then-q-from
returns-then-q-from c =
    let wide = c.from.ensures in
    let l = c.span.ensures in
    let h = c.if-q-from.true in
    let place : c.args.i * 128 + c.from-then-q-from.result + c.args.q ≡ c.args.i * 128 + (start_of c.args.part.now + c.args.q) = let e = c.from-then-q-from.ensures in let s = c.start.ensures in omega arith in
    code-within _ _ c.args.i c.args.q _ c.requires.0 (omega arith) (c.byte.ensures ∙ ap (λ (k : ℕ). get_or c.args.cells.now k 0) place)

pub returns-else-q-from : goal.returns-else-q-from
returns-else-q-from c =
    let wide = c.from.ensures in
    let l = c.span.ensures in
    let h = c.if-q-from.false in
    code-after _ _ c.args.i c.args.q _ (omega arith) c.cell.ensures
