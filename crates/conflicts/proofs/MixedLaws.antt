-- Removing a column that is not mixed never helps.
-- Assumes nothing.
use mathlib.Core.Path.{◌≡◌, subst}
use mathlib.Core.Logic.{◌⊎◌, inl, inr}
use mathlib.Core.Bool.{Bool}
use Prim.Native.Nat.{ℕ, ◌≤◌, ◌<◌}
use native.Mathlib.Omega.{arith}
use lib.Dec.{T}
use Rattle.below.specs.Below.{◌=?◌, ◌and◌, isnt, any_below}
use Rattle.below.proofs.BelowLaws.{both, left-of, right_of, or_cases, decided, isnt-T, T-isnt, any_below-of, count-lt, <?-lt}
use Rattle.conflicts.specs.Grid.{Grid, calls_conflict, conflict_on, mixed}
use Rattle.conflicts.specs.Answer.{snp_answer, keep_mark_in}
use Rattle.conflicts.specs.Minimality.{ColumnsWork}
use Rattle.conflicts.proofs.KeepLaws.{isnt-zero}
use Rattle.conflicts.proofs.Minimality.{snp_removal_holds}

module _ (g : Grid) where
  -- two fragments conflict on mixed columns only
  pub conflict-mixed : (i j c : ℕ) → i < g.m → j < g.m → T (conflict_on g c i j) → T (mixed g c)
  unfolding conflict_on calls_conflict mixed
  conflict-mixed i j c hi hj t = go (or_cases _ _ t)
    where
      go : T (g.cell i c =? 1 and g.cell j c =? 2) ⊎ T (g.cell i c =? 2 and g.cell j c =? 1) → T (any_below g.m (λ i. g.cell i c =? 1) and any_below g.m (λ i. g.cell i c =? 2))
      go (inl s) = both _ _ (any_below-of g.m _ i hi (left-of _ _ s)) (any_below-of g.m _ j hj (right_of _ _ s))
      go (inr s) = both _ _ (any_below-of g.m _ j hj (right_of _ _ s)) (any_below-of g.m _ i hi (left-of _ _ s))

  -- "removing a column that is not mixed never helps": what a set does, its mixed columns do
  pub mixed-enough : (removed : ℕ → Bool) → ColumnsWork g removed → ColumnsWork g (λ c. removed c and mixed g c)
  mixed-enough removed w = record {
    class = w.class;
    apart = λ i j c hi hj hc ki kj kept e clash.
        w.apart i j c hi hj hc ki kj (isnt-T (removed c) (λ r. T-isnt _ kept (both _ _ r (conflict-mixed i j c hi hj clash)))) e clash;
  }

  -- S removes mixed columns only
  pub unmixed-kept : (c : ℕ) → c < g.n → T (isnt (mixed g c)) → keep_mark_in (snp_answer g) c ≡ 1
  unmixed-kept c h plain = go (decided (keep_mark_in (snp_answer g) c =? 0))
    where
      gone : ℕ → Bool
      gone d = keep_mark_in (snp_answer g) d =? 0

      go : T (gone c) ⊎ T (isnt (gone c)) → keep_mark_in (snp_answer g) c ≡ 1
      go (inl t) =
          let least = (snp_removal_holds g).fewest.bound (λ d. gone d and mixed g d) (mixed-enough gone (snp_removal_holds g).fewest.works) in
          let fewer = count-lt g.n (λ d. gone d and mixed g d) gone (λ d l s. left-of (gone d) (mixed g d) s) c h
          (isnt-T _ (λ s. T-isnt (mixed g c) plain (right_of (gone c) (mixed g c) s))) t in
          let all = (snp_removal_holds g).fewest.count in
          absurd (omega arith)
      go (inr t) = one (keep_mark_in (snp_answer g) c) ((snp_removal_holds g).marks c h) t
        where
          one : (x : ℕ) → x ≤ 1 → T (isnt (x =? 0)) → x ≡ 1
          one x l s = let p : 0 < x = <?-lt 0 x (subst T (isnt-zero x) s) in omega arith
