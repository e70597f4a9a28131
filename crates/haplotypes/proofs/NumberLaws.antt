-- Where S, F and C accept one table, C's number is at least S's and at least F's: from what their contracts say alone.
-- Assumes nothing.
use mathlib.Core.Path.{◌≡◌}
use mathlib.Core.List.{List}
use Prim.Native.Nat.{ℕ, ◌≤◌}
use native.Mathlib.Nat.{le_trans, le_of_eq}
use Rattle.records.specs.Outcome.{Verdict, accepted}
use Rattle.conflicts.specs.Grid.{grid_of}
use Rattle.conflicts.proofs.LeastCorrections.{columns-touched, columns-count, fragments-touched, fragments-count}
use Rattle.conflicts.proofs.CorrectionsMinimality.{table-heavy}
use Rattle.removals.specs.Meanings.{SnpSays, FragmentSays}
use Rattle.correcting.specs.Meanings.{CorrectionSays}

module _ (n : ℕ) (table answer corrected : List ℕ) (verdict : Verdict) (c : ℕ) (says : CorrectionSays n table answer corrected verdict) (e : verdict ≡ accepted c) where
  -- the columns that C's calls touch make the table error-free, and are no more than what the calls weigh
  pub corrections-above-snps : (answer : List ℕ) (verdict : Verdict) (s : ℕ) → SnpSays n table answer verdict → verdict ≡ accepted s → s ≤ c
  corrections-above-snps answer verdict s snps d =
      let f = (says.least c e).fewest in
      le_trans ((snps.least s d).fewest.bound _ (columns-touched (grid_of n table) _ f.works)) (le_trans (columns-count (grid_of n table) _ (table-heavy n table)) (le_of_eq f.count))

  pub corrections-above-fragments : (answer : List ℕ) (verdict : Verdict) (s : ℕ) → FragmentSays n table answer verdict → verdict ≡ accepted s → s ≤ c
  corrections-above-fragments answer verdict s fragments d =
      let f = (says.least c e).fewest in
      le_trans ((fragments.least s d).fewest.bound _ (fragments-touched (grid_of n table) _ f.works)) (le_trans (fragments-count (grid_of n table) _ (table-heavy n table)) (le_of_eq f.count))
