-- The number of columns on which two fragments conflict: over 0 where they conflict, the same both ways, and what a table of these numbers tells.
-- Assumes nothing.
use mathlib.Core.Path.{◌≡◌, sym, ap, subst, ◌∙◌}
use mathlib.Core.Logic.{◌↔◌, inl, inr}
use Prim.Native.Nat.{ℕ, ◌+◌, ◌*◌, ◌<◌}
use native.Mathlib.Nat.{eq-zero-or-pos}
use native.Mathlib.Omega.{arith}
use lib.Dec.{T}
use lib.ListN.{length}
use Rattle.below.specs.Below.{◌<?◌, any_below, count_below, nth}
use Rattle.below.proofs.BelowLaws.{same_test, <?-lt, lt-<?, count-ext, count-bound, isnt-T, T-isnt}
use Rattle.below.proofs.SearchLaws.{T_true, T_false}
use Rattle.below.proofs.TestLaws.{and-true}
use Rattle.below.proofs.CountLaws.{count-any, none-counted}
use Rattle.below.proofs.RowLaws.{length-flat, flat-at}
use Rattle.conflicts.specs.Choice.{keep_all}
use Rattle.conflicts.specs.Grid.{Grid, conflict_on, conflict, agree}
use Rattle.conflicts.specs.Counts.{conflict_count_of, conflict_counts_of, CountsTold}
use Rattle.conflicts.proofs.SideLaws.{kept-all}
use Rattle.conflicts.proofs.GridLaws.{conflict-back, conflict-self}

module _ (g : Grid) where
  -- the number over all columns
  pub all-counted : (i j : ℕ) → conflict_count_of g (keep_all g.n) i j ≡ count_below g.n (λ c. conflict_on g c i j)
  unfolding conflict_count_of
  all-counted i j = count-ext g.n _ _ (λ c h. sym (and-true _ (T_true _ (kept-all g.n c h))))

  -- they conflict exactly if it is over 0
  pub conflict-counted : (i j : ℕ) → (0 <? conflict_count_of g (keep_all g.n) i j) ≡ conflict g i j
  unfolding conflict
  conflict-counted i j = ap (λ (k : ℕ). 0 <? k) (all-counted i j) ∙ count-any g.n _

  on_same : (c i j : ℕ) → conflict_on g c i j ≡ conflict_on g c j i
  unfolding conflict_on
  on_same c i j = same_test _ _ (conflict-back _ _) (conflict-back _ _)

  none-agree : (i j : ℕ) → (count_below g.n (λ c. conflict_on g c i j) ≡ 0) ↔ T (agree g i j)
  unfolding agree conflict
  none-agree i j = (
    λ e. isnt-T _ (λ t. let h = <?-lt 0 count (subst T (sym any) t) in omega arith),
    λ t. elim (eq-zero-or-pos count) [ inl e ↦ e | inr h ↦ absurd (T-isnt _ t (subst T any (lt-<? 0 count h))) ],
  )
    where
      count : ℕ
      count = count_below g.n (λ c. conflict_on g c i j)

      any : (0 <? count) ≡ any_below g.n (λ c. conflict_on g c i j)
      any = count-any g.n _

  on-self : (c i : ℕ) → T (conflict_on g c i i) → ⊥
  unfolding conflict_on
  on-self c i t = conflict-self _ t

  counts-length : length (conflict_counts_of g) ≡ g.m * g.m
  unfolding conflict_counts_of
  counts-length = length-flat g.m _ g.m

  counts-at : (i j : ℕ) → i < g.m → j < g.m → nth (conflict_counts_of g) (i * g.m + j) ≡ count_below g.n (λ c. conflict_on g c i j)
  unfolding conflict_counts_of
  counts-at i j hi hj = flat-at g.m _ 0 g.m i j hi hj ∙ all-counted i j

  -- what the bytes tell
  pub counts-told : CountsTold g (conflict_counts_of g)
  counts-told = record {
    size = counts-length;
    number = counts-at;
    same = λ i j hi hj. counts-at i j hi hj ∙ count-ext g.n _ _ (λ c h. on_same c i j) ∙ sym (counts-at j i hj hi);
    itself = λ i h. counts-at i i h h ∙ none-counted g.n _ (λ c l. T_false _ (on-self c i));
    none = λ i j hi hj. let w = none-agree i j in (λ e. w.0 (sym (counts-at i j hi hj) ∙ e), λ t. counts-at i j hi hj ∙ w.1 t);
    most = λ i j hi hj. rw (counts-at i j hi hj) (count-bound g.n _);
  }
