-- `digits::evens` meets its contract: step by step, the digits in groups of 1, 2, 4, 8, 16 and 32. The words that are kept were computed.
-- Assumes nothing.
use native.Mathlib.Omega.{arith}
use mathlib.Core.Path.{refl}
use mathlib.Core.Bool.{Bool}
use Prim.Native.Nat.{ℕ, ◌*◌}
use Rattle.below.specs.Below.{◌=?◌}
use Rattle.places.specs.Algorithm.Words.{word_of}
use Rattle.places.proofs.GatherLaws.{even, evens-kept, gathered-is, together}
use Rattle.places.proofs.digits.evens.Goals as goal

pub returns : goal.returns
unfolding word_of even ◌=?◌
returns c p e =
    let q : ℕ → Bool = λ k. p (2 * k) in
    let twos = c.gathered-twos in
    let fours = c.gathered-fours in
    let eights = c.gathered-eights in
    let sixteens = c.gathered-sixteens in
    together q
    (gathered-is 4 q 16 refl (omega arith) (λ k h l. omega arith)
    (gathered-is 3 q 8 refl (omega arith) (λ k h l. omega arith)
    (gathered-is 2 q 4 refl (omega arith) (λ k h l. omega arith)
    (gathered-is 1 q 2 refl (omega arith) (λ k h l. omega arith)
    (gathered-is 0 q 1 refl (omega arith) (λ k h l. omega arith)
    (evens-kept p e refl refl)
    refl twos.ensures)
    refl fours.ensures)
    refl eights.ensures)
    refl sixteens.ensures)
    refl c.gathered.ensures)
