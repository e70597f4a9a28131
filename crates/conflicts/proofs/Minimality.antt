-- Check's classes; S and F hand back the fewest, and the first, of all sets that make the table error-free. No gaplessness is used.
-- Assumes nothing.
use mathlib.Core.Path.{◌≡◌, refl, sym, ap, subst, ◌∙◌}
use mathlib.Core.Logic.{◌↔◌}
use mathlib.Core.Bool.{Bool, true}
use mathlib.Core.List.{List}
use Prim.Native.Nat.{ℕ, zero, suc, ◌≤◌, ◌<◌}
use native.Mathlib.Nat.{suc-ne-zero}
use native.Mathlib.Omega.{arith}
use lib.Dec.{T, lt→ltb}
use borrow.Author.Tests.{ne_eqb}
use lib.ListN.{length, get_or, get_or-replicate}
use Rattle.below.specs.Below.{◌=?◌, ◌<?◌, isnt}
use Rattle.conflicts.specs.Choice.{marked, zeros, keep_all}
use Rattle.conflicts.specs.Grid.{Grid}
use Rattle.conflicts.specs.Sides.{error_free, first_sides_of}
use Rattle.conflicts.specs.Removal.{snp_keep_marks_of, fragment_keep_marks_of}
use Rattle.conflicts.specs.Answer.{answer_size, answer, check_answer, snp_answer, fragment_answer, keep_mark_in, side_in}
use Rattle.conflicts.specs.Phased.{Phased}
use Rattle.conflicts.specs.Minimality.{everything, TwoClasses, ColumnsWork, FragmentsWork, FirstSides, ErrorFreeAnswer, SnpRemoval, FragmentRemoval}
use Rattle.conflicts.proofs.SideLaws.{kept-all, all-length, classes-less, error_free-exactly, first_sides_of-in, first_sides_of-first, first_sides_of-same, first_sides_of-length}
use Rattle.conflicts.proofs.KeepLaws.{isnt-zero, outside, outside-length, outside-marked, keeps-length, keeps-at, least-in, least-free, least-fewest, least_first}
use Rattle.conflicts.proofs.AnswerLaws.{answer-length, keep_mark-at, side-at}
use Rattle.conflicts.proofs.PhaseLaws.{phased}

T-same : {a b : Bool} → a ≡ b → T a → T b
T-same e t = subst T e t

mark-all : (size i : ℕ) → i < size → get_or (keep_all size) i 0 ≡ 1
unfolding keep_all
mark-all size i h = get_or-replicate {A = ℕ} size i 1 0 h

all_true : (size i : ℕ) → i < size → marked (keep_all size) i ≡ true
unfolding marked ◌<?◌
all_true size i h = rw (mark-all size i h)

-- a kept fragment has a side over 0, and a removed one side 0
side-zero : (mark side : ℕ) → (T (0 <? mark) → 1 ≤ side) → (T (isnt (0 <? mark)) → side ≡ 0) → (mark =? 0) ≡ (side =? 0)
unfolding ◌<?◌ ◌=?◌ isnt
side-zero zero side on off = rw (off tt)
side-zero (suc k) side on off =
    rw (ne_eqb (suc k) 0 (suc-ne-zero k), ne_eqb side 0 (λ e. let h = on (lt→ltb 0 (suc k) (omega arith)) in omega arith))

-- ---- an answer whose sides are the first

-- what an answer says that has these keep marks of columns, and the first lawful sides of these fragments
record Settled (g : Grid) (cols frags bytes : List ℕ) : Type 0 where
  filled : length bytes ≡ answer_size g.m g.n
  mark : (c : ℕ) → c < g.n → keep_mark_in bytes c ≡ get_or cols c 0
  gone : (i : ℕ) → i < g.m → (get_or frags i 0 =? 0) ≡ (side_in g.n bytes i =? 0)
  sides : FirstSides 2 g (marked cols) (marked frags) (side_in g.n bytes)
  phased : Phased g bytes

settled : (g : Grid) (cols frags : List ℕ) → length cols ≡ g.n → length frags ≡ g.m → T (error_free 2 g cols frags) → Settled g cols frags (answer g cols (first_sides_of 2 g cols frags))
unfolding marked
settled g cols frags lc lf free = record {
  filled = answer-length g cols these lc ls;
  mark = keep_mark-at g cols these lc ls;
  gone = λ i h. side-zero (get_or frags i 0) (get_or these i 0) (λ t. (first.fits.on i h t).0) (first.fits.off i h) ∙ ap (λ (x : ℕ). x =? 0) (sym (side-at g cols these lc ls i h));
  sides = first_sides_of-same (λ c h. refl) (λ i h. refl) (λ i h. sym (side-at g cols these lc ls i h)) first;
  phased = phased g cols these lc ls (first_sides_of-in 2 g cols frags lf free).1;
}
  where
    these : List ℕ
    these = first_sides_of 2 g cols frags

    ls : length these ≡ g.m
    ls = first_sides_of-length 2 g cols frags lf free

    first : FirstSides 2 g (marked cols) (marked frags) (λ i. get_or these i 0)
    first = first_sides_of-first 2 g cols frags lf free

-- a mark of a list says kept exactly where a byte that holds it is not 0
kept-where : (l : List ℕ) (i x : ℕ) → x ≡ get_or l i 0 → marked l i ≡ isnt (x =? 0)
unfolding marked
kept-where l i x e = sym (isnt-zero (get_or l i 0)) ∙ ap (λ (y : ℕ). isnt (y =? 0)) (sym e)

module _ (g : Grid) where
  -- ---- check

  -- where the table is error-free, check's answer has the first lawful sides
  pub checked : T (error_free 2 g (keep_all g.n) (keep_all g.m)) → ErrorFreeAnswer g (check_answer g)
  unfolding check_answer
  checked free =
      let s = settled g (keep_all g.n) (keep_all g.m) (all-length g.n) (all-length g.m) free in
      record {
        filled = s.filled;
        marks = λ c h. s.mark c h ∙ mark-all g.n c h;
        sides = first_sides_of-same (all_true g.n) (all_true g.m) (λ i h. refl) s.sides;
        phased = s.phased;
      }

  -- the table is error-free exactly if its fragments can be put in two classes
  pub error_free-classes : T (error_free 2 g (keep_all g.n) (keep_all g.m)) ↔ TwoClasses g everything everything
  error_free-classes =
      let e = error_free-exactly g (keep_all g.n) (keep_all g.m) (all-length g.m) in
      (λ t. classes-less (λ c h u. kept-all g.n c h) (λ i h u. kept-all g.m i h) (e.0 t), λ w. e.1 (classes-less (λ c h u. tt) (λ i h u. tt) w))

  -- ---- S

  snp_free : List ℕ → Bool
  snp_free cols = error_free 2 g cols (keep_all g.m)

  columns-same : (a b : ℕ → Bool) → ((c : ℕ) → c < g.n → a c ≡ b c) → ColumnsWork g a → ColumnsWork g b
  columns-same a b e = classes-less (λ c h. T-same (ap isnt (sym (e c h)))) (λ i h t. t)

  columns_of : (removed : ℕ → Bool) → ColumnsWork g removed → T (snp_free (outside g.n removed))
  unfolding snp_free
  columns_of removed w =
      (error_free-exactly g (outside g.n removed) (keep_all g.m) (all-length g.m)).1
      (classes-less (λ c h. T-same (outside-marked g.n removed c h)) (λ i h t. tt) w)

  columns-at : (marks : List ℕ) → length marks ≡ g.n → T (snp_free marks) → ColumnsWork g (λ c. get_or marks c 0 =? 0)
  unfolding snp_free marked
  columns-at marks e t =
      classes-less (λ c h. T-same (isnt-zero (get_or marks c 0))) (λ i h u. kept-all g.m i h) ((error_free-exactly g marks (keep_all g.m) (all-length g.m)).0 t)

  no-columns : ColumnsWork g everything
  unfolding isnt
  no-columns = record { class = λ i. true; apart = λ i j c hi hj hc ki kj kept. absurd kept }

  pub snp-in : length (snp_keep_marks_of g) ≡ g.n
  unfolding snp_keep_marks_of snp_free
  snp-in = keeps-length g.n (least-in g.n snp_free (ColumnsWork g) columns-same columns_of columns-at no-columns)

  -- S's keep marks make the table error-free
  pub snp-free : T (error_free 2 g (snp_keep_marks_of g) (keep_all g.m))
  unfolding snp_keep_marks_of snp_free
  snp-free = least-free g.n snp_free (ColumnsWork g) columns-same columns_of columns-at no-columns

  -- S: its set works, has exactly the number, no set of columns that works has fewer, none of as many comes before it; and its sides are the first
  pub snp_removal_holds : SnpRemoval g (snp_answer g) (zeros (snp_keep_marks_of g))
  unfolding snp_keep_marks_of snp_free snp_answer
  snp_removal_holds = record {
    filled = s.filled;
    marks = λ c h. rw (s.mark c h) (keeps-at g.n (least-in g.n snp_free (ColumnsWork g) columns-same columns_of columns-at no-columns) c h);
    fewest = least-fewest g.n snp_free (ColumnsWork g) columns-same columns_of columns-at no-columns gone is;
    first = least_first g.n snp_free (ColumnsWork g) columns-same columns_of columns-at no-columns gone is;
    sides = first_sides_of-same (λ c h. kept-where (snp_keep_marks_of g) c (keep_mark_in (snp_answer g) c) (s.mark c h)) (all_true g.m) (λ i h. refl) s.sides;
    phased = s.phased;
  }
    where
      s : Settled g (snp_keep_marks_of g) (keep_all g.m) (snp_answer g)
      s = settled g (snp_keep_marks_of g) (keep_all g.m) snp-in (all-length g.m) snp-free

      gone : ℕ → Bool
      gone c = keep_mark_in (snp_answer g) c =? 0

      is : (c : ℕ) → c < g.n → (get_or (snp_keep_marks_of g) c 0 =? 0) ≡ gone c
      is c h = ap (λ (x : ℕ). x =? 0) (sym (s.mark c h))

  -- ---- F

  fragment_free : List ℕ → Bool
  fragment_free frags = error_free 2 g (keep_all g.n) frags

  fragments-same : (a b : ℕ → Bool) → ((i : ℕ) → i < g.m → a i ≡ b i) → FragmentsWork g a → FragmentsWork g b
  fragments-same a b e = classes-less (λ c h t. t) (λ i h. T-same (ap isnt (sym (e i h))))

  fragments-of : (removed : ℕ → Bool) → FragmentsWork g removed → T (fragment_free (outside g.m removed))
  unfolding fragment_free
  fragments-of removed w =
      (error_free-exactly g (keep_all g.n) (outside g.m removed) (outside-length g.m removed)).1
      (classes-less (λ c h t. tt) (λ i h. T-same (outside-marked g.m removed i h)) w)

  fragments-at : (marks : List ℕ) → length marks ≡ g.m → T (fragment_free marks) → FragmentsWork g (λ i. get_or marks i 0 =? 0)
  unfolding fragment_free marked
  fragments-at marks e t =
      classes-less (λ c h u. kept-all g.n c h) (λ i h. T-same (isnt-zero (get_or marks i 0))) ((error_free-exactly g (keep_all g.n) marks e).0 t)

  no-fragments : FragmentsWork g everything
  unfolding isnt
  no-fragments = record { class = λ i. true; apart = λ i j c hi hj hc ki. absurd ki }

  pub fragments-in : length (fragment_keep_marks_of g) ≡ g.m
  unfolding fragment_keep_marks_of fragment_free
  fragments-in = keeps-length g.m (least-in g.m fragment_free (FragmentsWork g) fragments-same fragments-of fragments-at no-fragments)

  -- F's keep marks make the table error-free
  pub fragments-free : T (error_free 2 g (keep_all g.n) (fragment_keep_marks_of g))
  unfolding fragment_keep_marks_of fragment_free
  fragments-free = least-free g.m fragment_free (FragmentsWork g) fragments-same fragments-of fragments-at no-fragments

  -- F: the same, of the fragments with side 0 in its answer
  pub fragment_removal_holds : FragmentRemoval g (fragment_answer g) (zeros (fragment_keep_marks_of g))
  unfolding fragment_keep_marks_of fragment_free fragment_answer
  fragment_removal_holds = record {
    filled = s.filled;
    marks = λ c h. s.mark c h ∙ mark-all g.n c h;
    fewest = least-fewest g.m fragment_free (FragmentsWork g) fragments-same fragments-of fragments-at no-fragments gone s.gone;
    first = least_first g.m fragment_free (FragmentsWork g) fragments-same fragments-of fragments-at no-fragments gone s.gone;
    sides = first_sides_of-same (all_true g.n) kept (λ i h. refl) s.sides;
    phased = s.phased;
  }
    where
      s : Settled g (keep_all g.n) (fragment_keep_marks_of g) (fragment_answer g)
      s = settled g (keep_all g.n) (fragment_keep_marks_of g) (all-length g.n) fragments-in fragments-free

      gone : ℕ → Bool
      gone i = side_in g.n (fragment_answer g) i =? 0

      kept : (i : ℕ) → i < g.m → marked (fragment_keep_marks_of g) i ≡ isnt (gone i)
      kept i h = kept-where (fragment_keep_marks_of g) i (get_or (fragment_keep_marks_of g) i 0) refl ∙ ap isnt (s.gone i h)
