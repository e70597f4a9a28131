-- A part of an array of marks.
-- Assumes nothing.
use mathlib.Core.Path.{◌≡◌, refl, ap, ap₂, ◌∙◌}
use mathlib.Core.List.{List, ◌∷◌}
use Prim.Native.Nat.{ℕ, zero, suc, ◌-◌, ◌≤◌}
use native.Mathlib.Nat.{not-suc-le-zero, sub-zero}
use native.Mathlib.Omega.{arith}
use lib.ListN.{take, drop, replicate}
use Rattle.conflicts.specs.Choice.{keep_all}

-- the first n of 128 marks 1, as a part of their array
take-replicate : (n k a : ℕ) → n ≤ k → take n (replicate k a) ≡ replicate n a
take-replicate zero k a h = refl
take-replicate (suc n) zero a h = absurd (not-suc-le-zero h)
take-replicate (suc n) (suc k) a h = ap (λ (l : List ℕ). a ∷ l) (take-replicate n k a (omega arith))

pub all-kept-part : (n : ℕ) (marks : List ℕ) → n ≤ 128 → marks ≡ replicate 128 1 → take (n - 0) (drop 0 marks) ≡ keep_all n
unfolding keep_all
all-kept-part n marks h e = ap₂ (λ (k : ℕ) (l : List ℕ). take k l) (sub-zero n) e ∙ take-replicate n 128 1 h
