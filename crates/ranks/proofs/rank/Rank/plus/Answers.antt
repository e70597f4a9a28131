-- `Rank::plus` meets its contract: what the lower words carry has room in the higher word.
-- Assumes nothing.
use Rattle.std.specs.Bool.{FalseIff}
use mathlib.Core.Path.{◌≡◌}
use mathlib.Core.Bool.{Bool, true, false}
use mir.Val.{bool_byte}
use Prim.Native.Nat.{ℕ, ◌+◌, ◌*◌, ◌%◌, ◌^◌, ◌<◌}
use borrow.Author.Rules.{rules}
use native.Mathlib.Omega.{arith}
use Rattle.ranks.proofs.WordLaws.{sum-high}
use Rattle.ranks.proofs.rank.Rank.plus.Goals as goal

pub overflow_add-result-2 : goal.overflow_add-result-2
overflow_add-result-2 c =
    let a = c.args in
    let h = sum-high a.self.high a.other.high a.self.low a.other.low (a.self.low + a.other.low) 0 (omega arith) c.requires.codes in
    record { fits = omega arith }

-- what is carried, and what is left of a sum
carried : (carry : Bool) (a b s : ℕ) → a < 2 ^ 64 → b < 2 ^ 64 → s ≡ (a + b) % 2 ^ 64 → FalseIff carry (a + b < 2 ^ 64) → bool_byte carry * 2 ^ 64 + s ≡ a + b
carried true a b s ha hb e over = omega arith
carried false a b s ha hb e fits = omega arith

pub overflow_add-result-3 : goal.overflow_add-result-3
overflow_add-result-3 c =
    let a = c.args in
    let low = c.overflowing_add-low in
    let e = carried low.result.1 a.self.low a.other.low low.result.0 (search rules) (search rules) low.ensures.value low.ensures.overflow in
    record { fits = rw c.from.ensures (sum-high a.self.high a.other.high a.self.low a.other.low low.result.0 (bool_byte low.result.1) e c.requires.codes) }
