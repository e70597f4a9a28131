-- What the computed trials share: comparing verdicts and lists, and records by their bytes.
-- Assumes nothing.
use mathlib.Core.Bool.{Bool, true, false, ◌&&◌}
use mathlib.Core.List.{List, [], ◌∷◌, ◌++◌}
use Prim.Native.Nat.{ℕ, ◌-◌}
use lib.Dec.{eqb}
use lib.ListN.{length, replicate}
use Rattle.records.specs.Outcome.{Verdict, accepted, refused}

unfoldable pub same_verdict : Verdict → Verdict → Bool
same_verdict (accepted j) (accepted k) = eqb j k
same_verdict (accepted j) (refused k p) = false
same_verdict (refused k p) (accepted j) = false
same_verdict (refused j p) (refused k q) = eqb j k && eqb p q

module _ {A : Type 0} (same : A → A → Bool) where
  unfoldable pub same_list : List A → List A → Bool
  same_list [] [] = true
  same_list [] (y ∷ ys) = false
  same_list (x ∷ xs) [] = false
  same_list (x ∷ xs) (y ∷ ys) = same x y && same_list xs ys

-- bytes filled with zeros to a record's 32
unfoldable pub filled : List ℕ → List ℕ
filled bytes = bytes ++ replicate (32 - length bytes) 0

-- a record with a tag and a start below 256, a span, byte 7 and the first bytes of its cells
unfoldable pub made : ℕ → ℕ → ℕ → ℕ → List ℕ → List ℕ
made tag start span byte7 cells = filled (tag ∷ 0 ∷ 0 ∷ 0 ∷ start ∷ 0 ∷ span ∷ byte7 ∷ cells)
