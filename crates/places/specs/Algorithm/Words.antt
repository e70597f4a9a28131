-- Words of bits: a test of numbers as a number.
-- Assumes nothing.
use Rattle.std.specs.Prelude.{ℕ, zero, suc, ◌+◌, ◌*◌, ◌^◌, Bool}
use Rattle.below.specs.Below.{bit}

-- the number whose binary digit k, for each k below w, is 1 exactly if k passes the test
unfoldable pub word_of : ℕ → (ℕ → Bool) → ℕ
word_of zero p = 0
word_of (suc w) p = bit (p w) * 2 ^ w + word_of w p

-- word h of a test of the numbers below 128: of those from 64 h on
unfoldable pub half_word : (ℕ → Bool) → ℕ → ℕ
half_word p h = word_of 64 (λ b. p (h * 64 + b))
