-- What conflict_counts writes, row by row, and what it returns, stage by stage.
-- Assumes nothing.
use mathlib.Core.Path.{◌≡◌, sym, ap, subst, ◌∙◌}
use mathlib.Core.List.{List, [], ◌∷◌}
use Prim.Native.Nat.{ℕ, ◌+◌, ◌*◌, ◌<◌}
use native.Mathlib.Omega.{arith}
use lib.Dec.{T}
use lib.ListN.{length}
use Rattle.below.specs.Below.{tab, concat, nth}
use Rattle.below.proofs.BelowLaws.{is_true, is_false, eq-=?, ne-isnt, T-isnt-isnt}
use Rattle.below.proofs.RowLaws.{tab-ext, length-flat, flat-at}
use Rattle.fields.specs.Table.{fragments}
use Rattle.records.specs.Outcome.{Verdict, accepted, refused}
use Rattle.records.specs.Rules.{Rule, decide, size_rules, table_rules}
use Rattle.records.specs.Algorithm.Kept.{SizesKept, RecordsKept}
use Rattle.records.proofs.RuleLaws.{accepted-count, rule-broken, rule-kept, decide-none, stage-kept, stage-refused, stage-last}
use Rattle.records.proofs.AcceptedLaws.{sized-count, sized-m}
use Rattle.conflicts.specs.Choice.{marked, keep_all}
use Rattle.conflicts.specs.Grid.{grid_of}
use Rattle.conflicts.specs.Counts.{conflict_count_of, conflict_counts_of, CountsTold}
use Rattle.conflicts.specs.Services.{written, length_rule, conflict_counts_rules, conflict_counts_leaves}
use Rattle.conflicts.proofs.CountLaws.{counts-told}
use Rattle.conflicts.proofs.Outcomes.{counts-refused}
use Rattle.conflicts.proofs.SideLaws.{kept-all}
use Rattle.places.specs.declared.places.Places.{Places}
use Rattle.places.specs.Algorithm.Places.{places_where}
use Rattle.places.specs.declared.lines.Line.{Line}
use Rattle.masks.specs.Algorithm.Masks.{mask_words, LetteredTable}
use Rattle.masks.specs.Algorithm.Pairs.{pair_matrix, Compared}
use Rattle.masks.proofs.RecordLaws.{kept-letters}
use Rattle.masks.proofs.TableLaws.{table-masks}
use Rattle.masks.proofs.PairLaws.{matrix-at, number-kept}
use Rattle.counting.specs.Algorithm.Rows.{rows_of}
use Rattle.counting.specs.Meanings.{ConflictCountsSay}

-- ---- rows

pub rows-length : (m : ℕ) (matrix : List ℕ) → length (rows_of m matrix) ≡ m * m
unfolding rows_of
rows-length m matrix = length-flat m _ m

-- number j of row i
pub rows_at : (m : ℕ) (matrix : List ℕ) (i j : ℕ) {first : ℕ} → first ≡ i * m → i < m → j < m → nth matrix (i * 128 + j) ≡ nth (rows_of m matrix) (first + j)
unfolding rows_of
rows_at m matrix i j e hi hj = sym (ap (λ (k : ℕ). nth (rows_of m matrix) (k + j)) e ∙ flat-at m _ 0 m i j hi hj)

-- ---- the numbers of a table

module _ (n m : ℕ) (table : List ℕ) (sized : SizesKept n m table) (kept : RecordsKept n table) where
  -- the rows of the matrix of all pairs
  pub rows-count : {words : List Line} {cols frags matrix : List ℕ} {keep : Places} → ((k : ℕ) → LetteredTable k table → words ≡ mask_words (grid_of k table)) → cols ≡ keep_all n → frags ≡ keep_all m
      → keep ≡ places_where (marked cols) → matrix ≡ pair_matrix words keep frags → rows_of m matrix ≡ conflict_counts_of (grid_of n table)
  unfolding rows_of conflict_counts_of grid_of
  rows-count {words} {cols} {frags} {matrix} {keep} are ek ef ep em =
      ap concat (tab-ext m _ _ (λ i hi. tab-ext m _ _ (λ j hj. entry i j hi hj)))
      ∙ ap (λ (k : ℕ). concat (tab k (λ i. tab k (λ j. conflict_count_of (grid_of n table) (keep_all n) i j)))) (sym (sized-count sized))
    where
      entry : (i j : ℕ) → i < m → j < m → nth matrix (i * 128 + j) ≡ conflict_count_of (grid_of n table) (keep_all n) i j
      entry i j hi hj =
          let few = sized-m sized in
          let count = sized-count sized in
          let by : Compared (grid_of n table) cols words keep = record { masks = table-masks sized kept (are n (kept-letters kept)); columns = ep } in
          let marked-at : (k : ℕ) → k < m → T (marked frags k) = λ k h. subst (λ (l : List ℕ). T (marked l k)) (sym ef) (kept-all m k h) in
          ap (λ (l : List ℕ). nth l (i * 128 + j)) em
          ∙ matrix-at words keep frags i j (omega arith) (omega arith)
          ∙ number-kept by frags i j (omega arith) (omega arith) (marked-at i hi) (marked-at j hj)
          ∙ ap (λ (k : List ℕ). conflict_count_of (grid_of n table) k i j) ek

-- ---- the service, stage by stage

module _ (n : ℕ) (table lent : List ℕ) where
  pub counts-sizes : (number place : ℕ) → decide (size_rules n table) (accepted (fragments table)) ≡ refused number place → (conflict_counts_leaves n table lent).outcome ≡ refused number place
  unfolding conflict_counts_leaves conflict_counts_rules
  counts-sizes number place e = stage-refused _ _ _ _ number place e

  -- a refusal, as the contract has it
  pub counts-refuses : (number place : ℕ) → (conflict_counts_leaves n table lent).outcome ≡ refused number place
      → (refused number place ≡ (conflict_counts_leaves n table lent).outcome) × (lent ≡ (conflict_counts_leaves n table lent).counts)
  counts-refuses number place e = (sym e, sym (counts-refused n number place table lent e))

  module _ (m : ℕ) (sized : SizesKept n m table) where
    lengths : List Rule
    lengths = length_rule lent (fragments table * fragments table) ∷ []

    after-sizes : (conflict_counts_leaves n table lent).outcome ≡ decide (concat (lengths ∷ table_rules n table ∷ [])) (accepted (fragments table))
    unfolding conflict_counts_leaves conflict_counts_rules lengths
    after-sizes = stage-kept _ _ _ _ m sized.kept

    size_is : fragments table * fragments table ≡ m * m
    size_is = ap (λ (k : ℕ). k * k) (sized-count sized)

    pub counts-length : (length lent ≡ m * m → ⊥) → (conflict_counts_leaves n table lent).outcome ≡ refused 11 0
    unfolding lengths length_rule
    counts-length f = after-sizes ∙ stage-refused _ _ 0 _ 11 0 (rule-broken _ _ _ (sym (is_true _ (ne-isnt _ _ (λ e. f (e ∙ size_is))))))

    pub counts-records : length lent ≡ m * m → (conflict_counts_leaves n table lent).outcome ≡ decide (table_rules n table) (accepted (fragments table))
    unfolding lengths length_rule
    counts-records e =
        after-sizes
        ∙ stage-kept _ _ 0 _ 0 (rule-kept _ _ _ (sym (is_false _ (T-isnt-isnt _ (eq-=? _ _ (e ∙ sym size_is))))) ∙ decide-none _)
        ∙ stage-last _ _

    -- an acceptance, as the contract has it
    pub counts-accepts : (k : ℕ) {after : List ℕ} → length lent ≡ m * m → decide (table_rules n table) (accepted (fragments table)) ≡ accepted k → after ≡ conflict_counts_of (grid_of n table)
        → (accepted m ≡ (conflict_counts_leaves n table lent).outcome) × (after ≡ (conflict_counts_leaves n table lent).counts)
    unfolding conflict_counts_leaves
    counts-accepts k e d is =
        let v = counts-records e ∙ d in
        (ap accepted (sym (sized-count sized) ∙ accepted-count (table_rules n table) (fragments table) k d) ∙ sym v, is ∙ sym (ap (λ (w : Verdict). written w (conflict_counts_of (grid_of n table)) lent) v))

  -- what the contract's equations mean
  pub counts-mean : {v : Verdict} {after : List ℕ} → v ≡ (conflict_counts_leaves n table lent).outcome → after ≡ (conflict_counts_leaves n table lent).counts → ConflictCountsSay n table after v
  unfolding conflict_counts_leaves
  counts-mean {v} {after} e d = record {
    returned = λ k a. sym (accepted-count (conflict_counts_rules n table lent) (fragments table) k (sym e ∙ a));
    told = λ k a. subst (CountsTold (grid_of n table)) (sym (d ∙ ap (λ (w : Verdict). written w (conflict_counts_of (grid_of n table)) lent) (sym e ∙ a))) (counts-told (grid_of n table));
  }
