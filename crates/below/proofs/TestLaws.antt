-- Tests joined, and an `if` on a test of numbers, from what the code's own tests say.
-- Assumes nothing.
use Rattle.std.specs.Prelude.{if◌then◌else◌}
use mathlib.Core.Path.{◌≡◌, refl, ap}
use mathlib.Core.Bool.{Bool, true, false}
use Prim.Native.Nat.{ℕ, ◌<◌, ◌≤◌}
use Rattle.below.specs.Below.{bit, ◌<?◌, ◌=?◌, ◌and◌}
use Rattle.below.proofs.SearchLaws.{<?-true, <?-false, =?-true, =?-false}

pub and-true : {a : Bool} (b : Bool) → a ≡ true → b ≡ (a and b)
unfolding ◌and◌
and-true b e = rw e

pub and-false : {a : Bool} (b : Bool) → a ≡ false → false ≡ (a and b)
unfolding ◌and◌
and-false b e = rw e

pub if-first : {a : Bool} (b : Bool) (x y : ℕ) → a ≡ false → y ≡ (if a and b then x else y)
if-first b x y e = ap (λ (t : Bool). if t then x else y) (and-false b e)

pub if-bit : (b : Bool) → (if b then 1 else 0) ≡ bit b
if-bit true = refl
if-bit false = refl

pub if-lt : {a b : ℕ} (x y : ℕ) → a < b → if a <? b then x else y ≡ x
if-lt {a} {b} x y h = rw (<?-true a b h)

pub if-ge : {a b : ℕ} (x y : ℕ) → b ≤ a → if a <? b then x else y ≡ y
if-ge {a} {b} x y h = rw (<?-false a b h)

pub if-eq : {a b : ℕ} (x y : ℕ) → a ≡ b → if a =? b then x else y ≡ x
if-eq {a} {b} x y h = rw (=?-true a b h)

pub if-ne : {a b : ℕ} (x y : ℕ) → (a ≡ b → ⊥) → if a =? b then x else y ≡ y
if-ne {a} {b} x y h = rw (=?-false a b h)
