-- `letters::fours` meets its contract: all bytes were tested.
-- Assumes nothing.
use borrow.Author.Rules.{rules}
use native.Mathlib.Omega.{arith}
use Prim.Native.Nat.{ℕ, ◌+◌, ◌*◌, ◌≤◌, ◌<◌}
use Rattle.fields.proofs.LetterLaws.{twos, fours-at}
use Rattle.fields.proofs.letters.fours.Goals as goal

product : {y : ℕ} → y ≤ 51 → 4 * y < 256
product h = omega arith

total : {x y : ℕ} → x ≤ 51 → y ≤ 51 → x + 4 * y < 256
total h k = omega arith

pub overflow_mul-result : goal.overflow_mul-result
unfolding twos
overflow_mul-result c = rw c.from-codes.ensures (record { fits = product (fours-at c.args.codes (search rules)).1 })

pub overflow_add-result : goal.overflow_add-result
unfolding twos
overflow_add-result c = rw c.from-codes.ensures (record { fits = let r = fours-at c.args.codes (search rules) in total r.2 r.1 })

pub returns : goal.returns
unfolding twos
returns c = rw c.from-codes.ensures (fours-at c.args.codes (search rules)).0
