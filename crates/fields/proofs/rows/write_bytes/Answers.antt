use Prim.Native.Nat.{ℕ, ◌+◌, ◌*◌, ◌/◌, ◌%◌, ◌^◌, ◌<◌}
use mathlib.Core.Path.{◌≡◌, refl, ap, ◌∙◌}
use native.Mathlib.Omega.{arith}
use Rattle.fields.specs.Record.{cell_of}
use Rattle.below.proofs.FillLaws.{filled_none, filled-four}
use Rattle.fields.proofs.FieldLaws.{cell-of-byte}
use Rattle.fields.proofs.rows.write_bytes.Goals as goal

pub loop-b-init : goal.loop-b-init
loop-b-init c = filled_none _ _ _ refl

pub loop-b-preserved : goal.loop-b-preserved
loop-b-preserved c =
    let loop = c.loop-b in
    let x = c.byte-codes.result in
    let r = c.args.part.now in
    let is : (q : ℕ) → q < 4 → x / 4 ^ q % 4 ≡ cell_of r (4 * loop.b + q) = λ q l. cell-of-byte r loop.b q x (omega arith) l c.byte-codes.ensures in
    let first : x % 4 ≡ x / 1 % 4 = omega arith in
    let last : x / 64 ≡ x / 64 % 4 = omega (arith, c.byte-codes.type_inv) in
    filled-four _ _ (4 * loop.b) _ loop.row _ _ _ _ loop.invariant (omega arith) (omega arith) (first ∙ is 0 (omega arith) ∙ ap (cell_of r) (omega arith)) (is 1 (omega arith)) (is 2 (omega arith)) (last ∙ is 3 (omega arith))

pub returns : goal.returns
returns c = λ j h. c.loop-b.invariant.done j (omega arith)
