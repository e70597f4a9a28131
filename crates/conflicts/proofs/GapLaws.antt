-- A table whose records keep rules 4 to 8 is gapless.
-- Assumes nothing.
use mathlib.Core.Path.{subst}
use mathlib.Core.Bool.{Bool}
use mathlib.Core.List.{List}
use Prim.Native.Nat.{ℕ, ◌<◌}
use lib.Dec.{T}
use Rattle.below.specs.Below.{isnt}
use Rattle.fields.specs.Table.{fragments, record_bytes_at}
use Rattle.records.specs.Rules.{gapped}
use Rattle.below.proofs.BelowLaws.{all_below-of}
use Rattle.records.proofs.PackLaws.{Sound}
use Rattle.records.proofs.SoundLaws.{sound-gapped}
use Rattle.conflicts.specs.Grid.{grid_of, gapless}

-- "gapless": no record has a hole between two calls
pub gapless-table : (n : ℕ) (table : List ℕ) → ((i : ℕ) → i < fragments table → Sound n (record_bytes_at table i)) → ((i : ℕ) → i < fragments table → T (isnt (gapped (record_bytes_at table i))))
    → T (gapless (grid_of n table))
unfolding gapless grid_of
gapless-table n table sound kept = all_below-of (fragments table) _ (λ i h. subst (λ (b : Bool). T (isnt b)) (sound-gapped n (record_bytes_at table i) (sound i h)) (kept i h))
