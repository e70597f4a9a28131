-- `conflicts::Tally::with_call` meets its contract.
-- Assumes nothing.
use mathlib.Core.Path.{◌≡◌, ◌∙◌}
use Prim.Native.Nat.{ℕ, ◌+◌, ◌<◌, min}
use borrow.Author.Rules.{rules}
use borrow.Author.Tests.{ne_eqb}
use native.Mathlib.Decide.{dec_lt}
use native.Mathlib.Omega.{arith}
use Rattle.below.specs.Below.{◌=?◌}
use Rattle.below.proofs.SearchLaws.{<?-true, <?-false}
use Rattle.conflicts.specs.Tally.{one_more_of, tallied}
use Rattle.conflicts.proofs.Tally.with_call.Goals as goal

-- a count at its last number stays there
saturated : (n : ℕ) → n < 4294967296 → min (n + 1) 4294967295 ≡ one_more_of n
unfolding one_more_of
saturated n h = elim (dec_lt n 4294967295) [
  | yes l ↦ rw (<?-true n 4294967295 l) (omega arith)
  | no l ↦ rw (<?-false n 4294967295 (omega arith)) (omega arith)
]

pub returns-in-1 : goal.returns-in-1
unfolding tallied ◌=?◌
returns-in-1 c = rw (c.in-1.is, c.saturating_add.ensures ∙ saturated c.args.self.a (search rules))

pub returns-in-2 : goal.returns-in-2
unfolding tallied ◌=?◌
returns-in-2 c = rw (c.in-2.is, c.saturating_add-in-2.ensures ∙ saturated c.args.self.b (search rules))

pub returns-in_default : goal.returns-in_default
unfolding tallied ◌=?◌
returns-in_default c = let i = c.args.code in rw (ne_eqb i 1 (λ e. omega arith), ne_eqb i 2 (λ e. omega arith))
