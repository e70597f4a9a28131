-- What check, conflict_counts, S, F and C say of a table that keeps rules 1 to 7, 9 and 13, on buffers of the right lengths (paper 01, "Refused tables": a refusal "occurs under these conditions alone").
-- Assumes nothing.
use Rattle.std.specs.Prelude.{◌≡◌, ◌⊎◌, List, ℕ, ◌*◌, ◌≤◌, ◌<◌, length}
use Rattle.below.specs.Below.{Lowest, ◌<?◌}
use Rattle.fields.specs.Table.{fragments, record_bytes_at}
use Rattle.records.specs.Outcome.{Verdict, accepted, refused}
use Rattle.records.specs.Rules.{gapped}
use Rattle.conflicts.specs.Grid.{Grid, grid_of, coverage}
use Rattle.conflicts.specs.Answer.{answer_size}
use Rattle.conflicts.specs.Services.{check_leaves, conflict_counts_leaves, snp_removal_leaves, fragment_removal_leaves, corrections_leaves}

-- "an acceptance with its count"
pub record Accepts (verdict : Verdict) : Type 0 where
  pub count : ℕ
  pub is : verdict ≡ accepted count

-- "a refusal with its number and place", of which something holds
pub record Refuses (number : ℕ) (At : ℕ → Type 0) (verdict : Verdict) : Type 0 where
  pub place : ℕ
  pub is : verdict ≡ refused number place
  pub at : At place

-- 8, "gapped": the first record with a hole between two calls
abbrev pub FirstGapped : List ℕ → ℕ → Type 0
FirstGapped table = Lowest (fragments table) (λ i. gapped (record_bytes_at table i))

-- 12, "too deep": the "lowest column" that the stretches of over 8 fragments cover
abbrev pub TooDeep : Grid → ℕ → Type 0
TooDeep g = Lowest g.n (λ c. 8 <? coverage g c)

-- no column is too deep
pub record NoneDeep (g : Grid) : Type 0 where
  pub shallow : (c : ℕ) → c < g.n → coverage g c ≤ 8

-- check and conflict_counts accept; S and F accept, or refuse by 8; C accepts, or refuses by 12
pub record Served (n m : ℕ) (table : List ℕ) : Type 0 where
  pub check : (answer : List ℕ) → length answer ≡ answer_size m n → Accepts (check_leaves n table answer).outcome
  pub counts : (counts : List ℕ) → length counts ≡ m * m → Accepts (conflict_counts_leaves n table counts).outcome
  pub snps : (answer work : List ℕ) → length answer ≡ answer_size m n → 32768 ≤ length work
      → Accepts (snp_removal_leaves n table answer work).outcome ⊎ Refuses 8 (FirstGapped table) (snp_removal_leaves n table answer work).outcome
  pub fragments : (answer work : List ℕ) → length answer ≡ answer_size m n → 32768 ≤ length work
      → Accepts (fragment_removal_leaves n table answer work).outcome ⊎ Refuses 8 (FirstGapped table) (fragment_removal_leaves n table answer work).outcome
  pub corrections : (answer output work : List ℕ) → length answer ≡ answer_size m n → length output ≡ 32 * m → 32768 ≤ length work
      → Accepts (corrections_leaves n table answer output work).outcome ⊎ Refuses 12 (TooDeep (grid_of n table)) (corrections_leaves n table answer output work).outcome
