-- `places::Places::raised` meets its contract.
-- Assumes nothing.
use borrow.Author.Rules.{rules}
use native.Mathlib.Omega.{arith}
use Prim.Native.Nat.{◌-◌}
use mathlib.Core.Path.{ap₂, ◌∙◌}
use Rattle.places.proofs.PlaceLaws.{places}
use Rattle.places.proofs.ShiftLaws.{up_none, carry-fits, up-few, up-many, up-past}
use Rattle.places.proofs.places.Places.raised.Goals as goal

pub returns-then-s-eq0 : goal.returns-then-s-eq0
returns-then-s-eq0 c = λ p is. up_none c.args.s p is c.if-s-eq0.true

pub overflow_add-result : goal.overflow_add-result
overflow_add-result c = let a = c.args in record { fits = carry-fits a.s a.self.high a.self.low (search rules) (search rules) }

pub returns-then-s-lt64 : goal.returns-then-s-lt64
returns-then-s-lt64 c = λ p is. up-few c.args.s p is (64 - c.args.s) (omega arith)

pub returns-then-s-lt128 : goal.returns-then-s-lt128
returns-then-s-lt128 c = let s = c.args.s in λ p is. up-many s p is (s - 64) (128 - s) (omega arith) (omega arith)

pub returns-else-s-lt128 : goal.returns-else-s-lt128
returns-else-s-lt128 c = λ p is. ap₂ places c.default.ensures.0 c.default.ensures.1 ∙ up-past c.args.s p is c.if-s-lt128.false
