-- What the lines of a listing say of the table (paper 01, "The listing program").
-- Assumes nothing.
use Rattle.std.specs.Prelude.{◌≡◌, ◌↔◌, ◌⊎◌, List, [], ◌∷◌, ◌++◌, ℕ, ◌*◌, ◌<◌, length, get_or}
use Prim.Native.Char.{Char, code}
use Rattle.records.specs.Outcome.{accepted, refused}
use Rattle.fields.specs.Table.{column_count_of}
use Rattle.records.specs.Rules.{table_verdict}
use Rattle.conflicts.specs.Grid.{grid_of}
use Rattle.conflicts.specs.Answer.{answer_size}
use Rattle.conflicts.specs.Minimality.{AgreeingClasses, SnpRemoval, FragmentRemoval, Corrected}
use Rattle.conflicts.specs.Served.{Accepts, Refuses, FirstGapped, TooDeep}
use Rattle.conflicts.specs.Services.{check_leaves, snp_removal_leaves, fragment_removal_leaves, corrections_leaves}
use Rattle.below.specs.Text.{ascii}
use Rattle.listing.specs.Listing.{line, refusal, fields, blank, sizes_line, check_line, snp_removal_line, fragment_removal_line, correction_line, listing}

-- what check, S, F and C say of a table of m fragments and n columns that is accepted, on the listing's buffers: all accept, but S and F may refuse by 8, and C by 12
pub record ServicesSay (n m : ℕ) (table : List ℕ) : Type 0 where
  pub check : Accepts (check_leaves n table (blank (answer_size m n))).outcome
  pub snps : Accepts (snp_removal_leaves n table (blank (answer_size m n)) (blank 32768)).outcome
      ⊎ Refuses 8 (FirstGapped table) (snp_removal_leaves n table (blank (answer_size m n)) (blank 32768)).outcome
  pub fragments : Accepts (fragment_removal_leaves n table (blank (answer_size m n)) (blank 32768)).outcome
      ⊎ Refuses 8 (FirstGapped table) (fragment_removal_leaves n table (blank (answer_size m n)) (blank 32768)).outcome
  pub corrections : Accepts (corrections_leaves n table (blank (answer_size m n)) (blank (32 * m)) (blank 32768)).outcome
      ⊎ Refuses 12 (TooDeep (grid_of n table)) (corrections_leaves n table (blank (answer_size m n)) (blank (32 * m)) (blank 32768)).outcome

-- a service's line, "fields after the letter": of a count and an answer that mean what the service promises
pub record FieldsLine (letter : Char) (m n : ℕ) (Means : List ℕ → ℕ → Type 0) (text : List ℕ) : Type 0 where
  pub count : ℕ
  pub answer : List ℕ
  pub means : Means answer count
  pub prints : text ≡ line ((code letter ∷ []) ∷ fields m n count answer)

-- a service's line where it refuses: "refusal 12 prints `C refused 12 at 0` in C's line", and 8 so in S's and F's; at a place of which something holds
pub record RefusalLine (letter : Char) (number : ℕ) (At : ℕ → Type 0) (text : List ℕ) : Type 0 where
  pub place : ℕ
  pub at : At place
  pub prints : text ≡ line ((code letter ∷ []) ∷ refusal number place)

-- the lines after the first, of such a table: "the second line ends in `yes` for an error-free table; the other lines follow all the same"
pub record LinesSay (n m : ℕ) (table : List ℕ) : Type 0 where
  pub yes : (check_line m n table ≡ ascii "error-free yes\n") ↔ AgreeingClasses (grid_of n table)
  pub no : (check_line m n table ≡ ascii "error-free no\n") ↔ (AgreeingClasses (grid_of n table) → ⊥)
  pub snps : FieldsLine "S" m n (SnpRemoval (grid_of n table)) (snp_removal_line m n table) ⊎ RefusalLine "S" 8 (FirstGapped table) (snp_removal_line m n table)
  pub fragments : FieldsLine "F" m n (FragmentRemoval (grid_of n table)) (fragment_removal_line m n table) ⊎ RefusalLine "F" 8 (FirstGapped table) (fragment_removal_line m n table)
  pub corrections : ((j : ℕ) → j < length table → get_or table j 0 < 256)
      → FieldsLine "C" m n (λ answer count. (fixed : List ℕ) × Corrected n table answer fixed count) (correction_line m n table)
      ⊎ RefusalLine "C" 12 (TooDeep (grid_of n table)) (correction_line m n table)

-- the listing whole: these five lines of a table that is accepted; "a refusal of the table prints one line, and no more"
pub record ListingSays (table : List ℕ) : Type 0 where
  pub accepts : (m : ℕ) → table_verdict (column_count_of table) table ≡ accepted m
      → listing table ≡ sizes_line m (column_count_of table) ++ (check_line m (column_count_of table) table ++ (snp_removal_line m (column_count_of table) table ++ (fragment_removal_line m (column_count_of table) table ++ correction_line m (column_count_of table) table)))
  pub lines : (m : ℕ) → table_verdict (column_count_of table) table ≡ accepted m → LinesSay (column_count_of table) m table
  pub refuses : (number place : ℕ) → table_verdict (column_count_of table) table ≡ refused number place → listing table ≡ line (refusal number place)
