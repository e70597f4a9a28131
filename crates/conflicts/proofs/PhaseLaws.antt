-- The haplotypes and blocks of an answer with lawful sides.
-- Assumes nothing.
use Rattle.std.specs.Prelude.{if◌then◌else◌}
use mathlib.Core.Path.{◌≡◌, refl, sym, ap₂, subst, ◌∙◌}
use mathlib.Core.Bool.{Bool}
use mathlib.Core.List.{List, [], ◌∷◌, Memᴰ}
use Prim.Native.Nat.{ℕ, suc, ◌+◌, ◌*◌, ◌<◌}
use native.Mathlib.Omega.{arith}
use lib.Dec.{T}
use lib.ListN.{length, get_or}
use lib.Seq.{ext_get_or}
use Rattle.below.specs.Below.{◌=?◌, ◌<?◌, ◌and◌, ◌or◌, isnt, any_below, first_below, tab, tab_from, concat}
use Rattle.fields.specs.Record.{is_call_code}
use Rattle.below.proofs.BelowLaws.{both, left-of, right_of, if-ind, if-true, if-false, =?-eq, =?-refl, lt-<?, any_below-at, any_below-of, length-tab, get_or-tab}
use Rattle.conflicts.specs.Choice.{first, marked}
use Rattle.conflicts.specs.Grid.{Grid, calls_conflict, conflict_on, conflict_on_kept}
use Rattle.conflicts.specs.Sides.{lawful}
use Rattle.conflicts.specs.Haplotypes.{side_call, haplotype, haplotypes}
use Rattle.conflicts.specs.Blocks.{linked, Chain, reached, lowest, block}
use Rattle.conflicts.specs.Answer.{answer, keep_mark_in, side_in, block_in}
use Rattle.conflicts.specs.Phased.{Haplotyped, linked_in, Blocked, Phased}
use Rattle.conflicts.proofs.GridLaws.{hole-no-call, calls-agree, conflict-back}
use Rattle.conflicts.proofs.ChoiceLaws.{some_of, first-is}
use Rattle.conflicts.proofs.OrderLaws.{tab-mem, mem-tab}
use Rattle.conflicts.proofs.SideLaws.{lawful-at}
use Rattle.conflicts.proofs.KeepLaws.{isnt-zero}
use Rattle.conflicts.proofs.AnswerLaws.{keep_mark-at, haplotype-at, side-at, block_at}
use Rattle.conflicts.proofs.ReachLaws.{joined_same, same-joined, lowest-least, lowest-chain}

-- a matrix of n columns by the codes of its rows, one after the other
rows : ℕ → ℕ → List ℕ → Grid
rows m n codes = record { m = m; n = n; cell = λ i c. get_or codes (i * n + c) 0; weight = λ i. 1 }

-- AA, A- on sides 1 and 2: column 0 is A on both, and no one of side 2 calls column 1
same-letter : haplotypes 2 (rows 2 2 (1 ∷ 1 ∷ 1 ∷ 0 ∷ [])) (1 ∷ 1 ∷ []) (1 ∷ 2 ∷ []) ≡ 1 ∷ 1 ∷ 1 ∷ 0 ∷ []
unfolding rows ◌=?◌ ◌<?◌ ◌or◌ is_call_code tab concat first marked side_call haplotype haplotypes
same-letter = refl

-- A-, BA, -B without column 0: the first is a block by itself
split : tab 3 (block (rows 3 2 (1 ∷ 0 ∷ 2 ∷ 1 ∷ 0 ∷ 2 ∷ [])) (0 ∷ 1 ∷ []) (1 ∷ 1 ∷ 2 ∷ [])) ≡ 0 ∷ 1 ∷ 1 ∷ []
unfolding rows ◌=?◌ ◌<?◌ ◌and◌ ◌or◌ any_below first_below tab marked calls_conflict conflict_on conflict_on_kept linked reached lowest block
split = refl

first-none : {A : Type 0} (p : A → Bool) (xs : List A) (d : A) → ((y : A) → Memᴰ y xs → T (p y) → ⊥) → first p xs d ≡ d
unfolding first
first-none p [] d f = refl
first-none p (x ∷ xs) d f = if-ind (λ z. z ≡ d) (p x) (λ t. absurd (f x (Memᴰ.head refl) t)) (λ t. first-none p xs d (λ y m. f y (Memᴰ.tail m)))

-- ---- haplotypes

module _ (g : Grid) (cols sides : List ℕ) (law : T (lawful g cols sides)) (s c : ℕ) (pos : 0 < s) (inside : c < g.n) (kept : T (marked cols c)) where
  -- what a fragment shows of its side's haplotype
  shown : ℕ → ℕ
  shown i = if get_or sides i 0 =? s then g.cell i c else 0

  -- a call that is shown is that of a fragment of the side
  shown-call : (i : ℕ) → T (is_call_code (shown i)) → (get_or sides i 0 ≡ s) × (shown i ≡ g.cell i c)
  unfolding shown
  shown-call i = if-ind (λ x. T (is_call_code x) → (get_or sides i 0 ≡ s) × (x ≡ g.cell i c)) (get_or sides i 0 =? s) (λ t call. (=?-eq _ _ t, refl)) (λ t call. absurd (hole-no-call call))

  shown-on : (i : ℕ) → get_or sides i 0 ≡ s → shown i ≡ g.cell i c
  unfolding shown
  shown-on i e = if-true (get_or sides i 0 =? s) (g.cell i c) 0 (rw e (=?-refl s))

  -- the call of each fragment of the side that calls the column
  pub haplotype-common : (i : ℕ) → i < g.m → get_or sides i 0 ≡ s → T (is_call_code (g.cell i c)) → haplotype g cols sides s c ≡ g.cell i c
  unfolding haplotype side_call shown tab conflict_on marked
  haplotype-common i hi e call =
      let own = shown-on i e in
      let r = first-is is_call_code (tab_from 0 g.m shown) 0 (some_of is_call_code (mem-tab shown 0 g.m i (omega arith) (omega arith)) (rw own call)) in
      let w = tab-mem shown 0 g.m r.0 in
      let hj : w.0 < g.m = omega (arith, w.2) in
      let call-j = rw w.3 at r.1 in
      let q = shown-call w.0 call-j in
      let one : get_or sides w.0 0 ≡ get_or sides i 0 = q.0 ∙ sym e in
      let on : T (0 <? get_or sides w.0 0) = lt-<? 0 (get_or sides w.0 0) (omega (arith, q.0)) in
      if-true (marked cols c) _ 3 kept ∙ w.3 ∙ q.1
      ∙ calls-agree (g.cell w.0 c) (g.cell i c) (rw q.1 at call-j) call (lawful-at g cols sides law w.0 i c hj hi inside on one kept)

  -- a hole if none calls it
  pub haplotype-hole : ((i : ℕ) → i < g.m → get_or sides i 0 ≡ s → T (is_call_code (g.cell i c)) → ⊥) → haplotype g cols sides s c ≡ 0
  unfolding haplotype side_call shown tab
  haplotype-hole f =
      if-true (marked cols c) _ 3 kept
      ∙ first-none is_call_code (tab_from 0 g.m shown) 0 (λ y m t.
      let w = tab-mem shown 0 g.m m in
      let call = rw w.3 at t in
      let q = shown-call w.0 call in
      f w.0 (omega (arith, w.2)) q.0 (rw q.1 at call))

-- ---- blocks

-- neighbours are two kept fragments that conflict on a kept column, and all such are neighbours
module _ (g : Grid) (cols sides : List ℕ) (i j : ℕ) where
  pub linked-at : T (linked g cols sides i j) → T (marked sides i) × T (marked sides j) × ((c : ℕ) × (c < g.n) × T (marked cols c) × T (conflict_on g c i j))
  unfolding linked conflict_on_kept
  linked-at t =
      let s = left-of _ _ t in
      let w = any_below-at g.n _ (right_of _ _ t) in
      (left-of _ _ s, right_of _ _ s, (w.0, w.1, left-of _ _ w.2, right_of _ _ w.2))

  pub linked_of : (c : ℕ) → c < g.n → T (marked sides i) → T (marked sides j) → T (marked cols c) → T (conflict_on g c i j) → T (linked g cols sides i j)
  unfolding linked conflict_on_kept
  linked_of c hc ki kj kc clash = both _ _ (both _ _ ki kj) (any_below-of g.n _ c hc (both _ _ kc clash))

linked-back : (g : Grid) (cols sides : List ℕ) (a b : ℕ) → T (linked g cols sides a b) → T (linked g cols sides b a)
unfolding conflict_on
linked-back g cols sides a b t =
    let w = linked-at g cols sides a b t in
    linked_of g cols sides b a w.2.0 w.2.1 w.1 w.0 w.2.2 (conflict-back _ _ w.2.3)

-- ---- the answer

module _ (g : Grid) (cols sides : List ℕ) (lc : length cols ≡ g.n) (ls : length sides ≡ g.m) where
  bytes : List ℕ
  bytes = answer g cols sides

  mark-is : (c : ℕ) → c < g.n → keep_mark_in bytes c ≡ get_or cols c 0
  unfolding bytes
  mark-is = keep_mark-at g cols sides lc ls

  side-is : (i : ℕ) → i < g.m → side_in g.n bytes i ≡ get_or sides i 0
  unfolding bytes
  side-is = side-at g cols sides lc ls

  kept-mark : (c : ℕ) → c < g.n → T (isnt (keep_mark_in bytes c =? 0)) → T (marked cols c)
  unfolding marked
  kept-mark c h t = subst T (isnt-zero (get_or cols c 0)) (rw (mark-is c h) at t)

  kept-side : (i : ℕ) → i < g.m → T (isnt (side_in g.n bytes i =? 0)) → T (marked sides i)
  unfolding marked
  kept-side i h t = subst T (isnt-zero (get_or sides i 0)) (rw (side-is i h) at t)

  gone : (l : List ℕ) (i x : ℕ) → x ≡ get_or l i 0 → T (x =? 0) → T (isnt (marked l i))
  unfolding marked isnt ◌<?◌
  gone l i x e t = rw (sym e ∙ =?-eq x 0 t) tt

  pub haplotyped : T (lawful g cols sides) → Haplotyped g (answer g cols sides)
  unfolding bytes haplotype
  haplotyped law = record {
    common = λ h i c hh hi hc kept e call.
        haplotype-at g cols sides lc ls h c hh hc ∙ haplotype-common g cols sides law (suc h) c (omega arith) hc (kept-mark c hc kept) i hi (sym (side-is i hi) ∙ e) call;
    hole = λ h c hh hc kept f.
        haplotype-at g cols sides lc ls h c hh hc ∙ haplotype-hole g cols sides law (suc h) c (omega arith) hc (kept-mark c hc kept) (λ i hi e. f i hi (side-is i hi ∙ e));
    removed = λ h c hh hc t.
        haplotype-at g cols sides lc ls h c hh hc ∙ if-false (marked cols c) _ 3 (gone cols c (keep_mark_in bytes c) (mark-is c hc) t);
  }

  links : linked_in g bytes ≡ linked g cols sides
  links = ap₂ (linked g) (whole g.n (keep_mark_in bytes) cols lc mark-is) (whole g.m (side_in g.n bytes) sides ls side-is)
    where
      whole : (size : ℕ) (f : ℕ → ℕ) (l : List ℕ) → length l ≡ size → ((i : ℕ) → i < size → f i ≡ get_or l i 0) → tab size f ≡ l
      whole size f l e is = ext_get_or 0 (tab size f) l (length-tab size f ∙ sym e) (λ i h. let hi : i < size = omega (arith, length-tab size f) in get_or-tab size f i 0 hi ∙ is i hi)

  block-is : (i : ℕ) → i < g.m → T (isnt (side_in g.n bytes i =? 0)) → block_in g.m g.n bytes i ≡ lowest g.m (linked g cols sides) i
  unfolding bytes block
  block-is i h t = block_at g cols sides lc ls i h ∙ if-true (marked sides i) _ 255 (kept-side i h t)

  chain-to : {i j : ℕ} → Chain g.m (linked_in g bytes) i j → Chain g.m (linked g cols sides) i j
  chain-to {i} {j} c = subst (λ (f : ℕ → ℕ → Bool). Chain g.m f i j) links c

  chain-from : {i j : ℕ} → Chain g.m (linked g cols sides) i j → Chain g.m (linked_in g bytes) i j
  chain-from {i} {j} c = subst (λ (f : ℕ → ℕ → Bool). Chain g.m f i j) (sym links) c

  pub blocked : Blocked g (answer g cols sides)
  unfolding bytes block
  blocked = record {
    joined = λ i j hi hj ki kj c. block-is i hi ki ∙ joined_same g.m (linked g cols sides) (linked-back g cols sides) i j hi hj (chain-to c) ∙ sym (block-is j hj kj);
    together = λ i j hi hj ki kj e. chain-from (same-joined g.m (linked g cols sides) (linked-back g cols sides) i j hi hj (sym (block-is i hi ki) ∙ e ∙ block-is j hj kj));
    member = λ i hi ki. chain-from (subst (λ (x : ℕ). Chain g.m (linked g cols sides) i x) (sym (block-is i hi ki)) (lowest-chain g.m (linked g cols sides) i hi));
    lowest = λ i j hi hj ki c. rw (block-is i hi ki) (lowest-least g.m (linked g cols sides) i hi (chain-to c) hj);
    removed = λ i hi t. block_at g cols sides lc ls i hi ∙ if-false (marked sides i) _ 255 (gone sides i (side_in g.n bytes i) (side-is i hi) t);
  }

  -- the haplotypes and blocks of an answer with lawful sides
  pub phased : T (lawful g cols sides) → Phased g (answer g cols sides)
  phased law = record { haplotypes = haplotyped law; blocks = blocked }
