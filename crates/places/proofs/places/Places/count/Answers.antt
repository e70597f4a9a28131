-- `places::Places::count` meets its contract.
-- Assumes nothing.
use borrow.Author.Rules.{rules}
use mathlib.Core.Path.{refl}
use native.Mathlib.Omega.{arith}
use lib.Count.{ones-le}
use Rattle.places.specs.Algorithm.Places.{size}
use Rattle.places.proofs.places.Places.count.Goals as goal

pub overflow_add-result : goal.overflow_add-result
overflow_add-result c = let a = c.args in omega (arith, ones-le 64 a.self.low (search rules), ones-le 64 a.self.high (search rules))

pub returns : goal.returns
unfolding size
returns c = let a = c.args in record { number = refl; most = omega (arith, ones-le 64 a.self.low (search rules), ones-le 64 a.self.high (search rules)) }
