-- Texts appended to a text one after the other.
-- Assumes nothing.
use mathlib.Core.Path.{◌≡◌, ap, ◌∙◌}
use mathlib.Core.List.{List, ◌++◌, append_assoc}
use Prim.Native.Nat.{ℕ}

infixr 20 ◌⨾◌
-- one text, and then another
pub ◌⨾◌ : (s t : List ℕ) (before : List ℕ) {between after : List ℕ} → between ≡ before ++ s → after ≡ between ++ t → after ≡ before ++ (s ++ t)
◌⨾◌ s t before first then = then ∙ ap (λ (text : List ℕ). text ++ t) first ∙ append_assoc before s t
