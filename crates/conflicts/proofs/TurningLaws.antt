-- Whole blocks turned over leave lawful sides, since fragments that conflict are in one block; within a block all lawful sides agree on who is together, since each link puts two apart.
-- Assumes nothing.
use Rattle.std.specs.Prelude.{if◌then◌else◌}
use mathlib.Core.Path.{◌≡◌, refl, sym, ap, subst, subst₂, ◌∙◌}
use mathlib.Core.Logic.{◌⊎◌, inl, inr}
use mathlib.Core.Bool.{Bool, true, false}
use mathlib.Core.List.{List}
use Prim.Native.Nat.{ℕ, ◌+◌, ◌/◌, ◌≤◌, ◌<◌}
use native.Mathlib.Nat.{le_antisymm}
use native.Mathlib.Omega.{arith}
use lib.Dec.{T}
use lib.ListN.{get_or}
use Rattle.below.specs.Below.{◌=?◌, ◌<?◌, isnt, tab}
use Rattle.fields.specs.Record.{is_call_code}
use Rattle.fields.specs.Table.{fragments}
use Rattle.below.proofs.BelowLaws.{decided, if-ind, =?-eq, isnt-=?, ne-isnt, isnt-isnt, get_or-tab}
use Rattle.conflicts.specs.Choice.{marked}
use Rattle.conflicts.specs.Grid.{Grid, grid_of, calls_conflict, conflict_on}
use Rattle.conflicts.specs.Blocks.{Chain, alone, onward}
use Rattle.conflicts.specs.Corrections.{cost, side_letter, differs, turned}
use Rattle.conflicts.specs.Answer.{keep_mark_in, side_in}
use Rattle.conflicts.specs.Phased.{linked_in, Blocked}
use Rattle.conflicts.specs.Minimality.{everything, LawfulSides, ErrorFreeAnswer, SnpRemoval, FragmentRemoval, SidesCost, Corrected}
use Rattle.conflicts.specs.Turning.{other_side, in_chosen, turned_sides, LawfulFor, BlocksPhase, CorrectedPhase}
use Rattle.conflicts.proofs.KeepLaws.{isnt-zero}
use Rattle.conflicts.proofs.GridLaws.{conflict-self}
use Rattle.conflicts.proofs.PhaseLaws.{linked-at, linked_of}
use Rattle.conflicts.proofs.CorrectionLaws.{conflict-calls, cost-bound}

-- ---- the other side

-- sides 1 and 2 sum to 3
other-on : (x : ℕ) → (1 ≤ x) × (x ≤ 2) → other_side x + x ≡ 3
unfolding other_side
other-on x h =
    if-ind (λ y. y + x ≡ 3) (x =? 1) (λ t. let e = =?-eq x 1 t in omega arith) λ s.
    if-ind (λ y. y + x ≡ 3) (x =? 2) (λ t. let e = =?-eq x 2 t in omega arith) (λ t. let f = isnt-=? x 1 s in let g = isnt-=? x 2 t in omega arith)

other-off : (x : ℕ) → x ≡ 0 → other_side x ≡ 0
unfolding other_side ◌=?◌
other-off x e = rw e

-- both turned over, or neither: on one side after means on one side before
one-turned : (b : Bool) (x y : ℕ) → (1 ≤ x) × (x ≤ 2) → (1 ≤ y) × (y ≤ 2) → (if b then other_side x else x) ≡ (if b then other_side y else y) → x ≡ y
one-turned true x y hx hy e = let p = other-on x hx in let q = other-on y hy in omega arith
one-turned false x y hx hy e = e

-- ---- links

-- a place that is not 0 is marked
marked-tab : (size : ℕ) (f : ℕ → ℕ) (i : ℕ) → i < size → marked (tab size f) i ≡ isnt (f i =? 0)
unfolding marked
marked-tab size f i h = ap (λ (x : ℕ). 0 <? x) (get_or-tab size f i 0 h) ∙ sym (isnt-zero (f i))

module _ (g : Grid) (bytes : List ℕ) where
  -- a fragment that the answer keeps, and a column
  abbrev kept : ℕ → Bool
  kept i = isnt (side_in g.n bytes i =? 0)

  abbrev kept_column : ℕ → Bool
  kept_column c = isnt (keep_mark_in bytes c =? 0)

  side-marked : (i : ℕ) → i < g.m → marked (tab g.m (side_in g.n bytes)) i ≡ kept i
  side-marked i h = marked-tab g.m (side_in g.n bytes) i h

  column-marked : (c : ℕ) → c < g.n → marked (tab g.n (keep_mark_in bytes)) c ≡ kept_column c
  column-marked c h = marked-tab g.n (keep_mark_in bytes) c h

  -- neighbours by the answer's own bytes
  neighbours-of : (i j c : ℕ) → i < g.m → j < g.m → c < g.n → T (kept i) → T (kept j) → T (kept_column c) → T (conflict_on g c i j) → T (linked_in g bytes i j)
  neighbours-of i j c hi hj hc ki kj kc = linked_of g _ _ i j c hc (rw (side-marked i hi) ki) (rw (side-marked j hj) kj) (rw (column-marked c hc) kc)

  neighbours_at : (i j : ℕ) → i < g.m → j < g.m → T (linked_in g bytes i j) → T (kept i) × T (kept j) × ((c : ℕ) × (c < g.n) × T (kept_column c) × T (conflict_on g c i j))
  neighbours_at i j hi hj t =
      let w = linked-at g _ _ i j t in
      (subst T (side-marked i hi) w.0, subst T (side-marked j hj) w.1, (w.2.0, w.2.1, subst T (column-marked w.2.0 w.2.1) w.2.2, w.2.3))

  -- ---- across blocks

  module _ (blocks : Blocked g bytes) {side : ℕ → ℕ} (law : LawfulFor g bytes side) (chosen : ℕ → Bool) where
    abbrev over : ℕ → Bool
    over i = in_chosen g.m g.n bytes chosen i

    abbrev after : ℕ → ℕ
    after i = turned_sides g.m g.n bytes chosen side i

    turned_on : (i : ℕ) → i < g.m → T (kept i) → (1 ≤ after i) × (after i ≤ 2)
    unfolding turned_sides
    turned_on i h k =
        let on = law.on i h k in
        let e = other-on (side i) on in
        if-ind (λ x. (1 ≤ x) × (x ≤ 2)) (over i) (λ t. (omega arith, omega arith)) (λ t. on)

    turned-off : (i : ℕ) → i < g.m → T (isnt (kept i)) → after i ≡ 0
    unfolding turned_sides
    turned-off i h k =
        let off = law.off i h k in
        if-ind (λ x. x ≡ 0) (over i) (λ t. other-off (side i) off) (λ t. off)

    -- two neighbours are in one block, and turned over together
    together : (i j : ℕ) → i < g.m → j < g.m → T (kept i) → T (kept j) → T (linked_in g bytes i j) → over i ≡ over j
    unfolding in_chosen
    together i j hi hj ki kj link = ap chosen (blocks.joined i j hi hj ki kj (onward alone hi link))

    turned_apart : (i j c : ℕ) → i < g.m → j < g.m → c < g.n → T (kept i) → T (kept j) → T (kept_column c) → after i ≡ after j → T (conflict_on g c i j) → ⊥
    unfolding turned_sides
    turned_apart i j c hi hj hc ki kj kc e clash =
        let same = together i j hi hj ki kj (neighbours-of i j c hi hj hc ki kj kc clash) in
        let one = subst (λ (b : Bool). (if b then other_side (side i) else side i) ≡ after j) same e in
        law.apart i j c hi hj hc ki kj kc (one-turned (over j) (side i) (side j) (law.on i hi ki) (law.on j hj kj) one) clash

    turned-lawful : LawfulFor g bytes after
    turned-lawful = record { on = turned_on; off = turned-off; apart = turned_apart }

  -- ---- within a block

  -- neighbours are apart in all lawful sides
  neighbours-apart : {side : ℕ → ℕ} → LawfulFor g bytes side → (i j : ℕ) → i < g.m → j < g.m → T (linked_in g bytes i j) → side i + side j ≡ 3
  neighbours-apart {side} law i j hi hj t =
      let w = neighbours_at i j hi hj t in
      let a = law.on i hi w.0 in
      let b = law.on j hj w.1 in
      let apart : side i ≡ side j → ⊥ = λ e. law.apart i j w.2.0 hi hj w.2.1 w.0 w.1 w.2.2 e w.2.3 in
      omega arith

  module _ {side other : ℕ → ℕ} (law : LawfulFor g bytes side) (law' : LawfulFor g bytes other) where
    -- what a chain joins is together in both, or apart in both
    chain-holds : {i j : ℕ} → j < g.m → Chain g.m (linked_in g bytes) i j → ((side i ≡ side j) × (other i ≡ other j)) ⊎ ((side i + side j ≡ 3) × (other i + other j ≡ 3))
    chain-holds hj alone = inl (refl, refl)
    chain-holds {i} {j} hj (onward {h} c hh t) =
        let p = neighbours-apart law h j hh hj t in
        let q = neighbours-apart law' h j hh hj t in
        elim (chain-holds hh c) [ inl e ↦ inr (omega arith, omega arith) | inr e ↦ inl (omega arith, omega arith) ]

    chain-together : {i j : ℕ} → j < g.m → Chain g.m (linked_in g bytes) i j → side i ≡ side j → other i ≡ other j
    chain-together hj c e = elim (chain-holds hj c) [ inl p ↦ p.1 | inr p ↦ absurd (omega arith) ]

  -- ---- the answer's own sides

  own-lawful : {kept_cols kept_frags : ℕ → Bool} → LawfulSides 2 g kept_cols kept_frags (side_in g.n bytes)
      → ((c : ℕ) → T (kept_column c) → T (kept_cols c)) → ((i : ℕ) → T (kept i) → T (kept_frags i)) → LawfulFor g bytes (side_in g.n bytes)
  own-lawful law cols frags = record {
    on = λ i h k. law.on i h (frags i k);
    off = λ i h k. =?-eq _ 0 (isnt-isnt _ k);
    apart = λ i j c hi hj hc ki kj kc. law.apart i j c hi hj hc (frags i ki) (frags j kj) (cols c kc);
  }

  phases : Blocked g bytes → LawfulFor g bytes (side_in g.n bytes) → BlocksPhase g bytes
  phases blocks own = record {
    own = own;
    across = λ side law. turned-lawful blocks law;
    within = λ i j hi hj ki kj e side other law law'. chain-together law law' hj (blocks.together i j hi hj ki kj e);
  }

-- ---- the services

module _ {g : Grid} {bytes : List ℕ} where
  -- check's answer on a yes
  pub check-phases : ErrorFreeAnswer g bytes → BlocksPhase g bytes
  check-phases w = phases g bytes w.phased.blocks (own-lawful g bytes w.sides.fits (λ c t. tt) (λ i t. tt))

  pub snp-phases : {number : ℕ} → SnpRemoval g bytes number → BlocksPhase g bytes
  snp-phases w = phases g bytes w.phased.blocks (own-lawful g bytes w.sides.fits (λ c t. t) (λ i t. tt))

  pub fragment-phases : {number : ℕ} → FragmentRemoval g bytes number → BlocksPhase g bytes
  fragment-phases w = phases g bytes w.phased.blocks (own-lawful g bytes w.sides.fits (λ c t. tt) (λ i t. t))

-- ---- C

module _ {n : ℕ} {given bytes table : List ℕ} {number : ℕ} (w : Corrected n given bytes table number) where
  same_size : fragments table ≡ fragments given
  unfolding fragments
  same_size = ap (λ (size : ℕ). size / 32) w.others.size

  -- a call after correction was one before
  was-call : (i c : ℕ) → i < fragments given → c < n → T (is_call_code ((grid_of n table).cell i c)) → T (is_call_code ((grid_of n given).cell i c))
  unfolding grid_of
  was-call i c hi hc t = go (decided (is_call_code ((grid_of n given).cell i c)))
    where
      go : T (is_call_code ((grid_of n given).cell i c)) ⊎ T (isnt (is_call_code ((grid_of n given).cell i c))) → T (is_call_code ((grid_of n given).cell i c))
      go (inl s) = s
      go (inr s) = subst (λ (x : ℕ). T (is_call_code x)) (w.holes i c hi hc s) t

  -- two calls of one side are one letter after correction
  one-letter : (i j c : ℕ) → i < fragments given → j < fragments given → c < n → side_in n bytes i ≡ side_in n bytes j → T (conflict_on (grid_of n table) c i j) → ⊥
  unfolding grid_of conflict_on
  one-letter i j c hi hj hc e clash =
      let calls = conflict-calls _ _ clash in
      let a = w.letters i c hi hc (was-call i c hi hc calls.0) in
      let b = w.letters j c hj hc (was-call j c hj hc calls.1) in
      let same = a ∙ ap (λ (s : ℕ). side_letter (grid_of n given) (tab (fragments given) (side_in n bytes)) s c) e ∙ sym b in
      conflict-self _ (subst (λ (x : ℕ). T (calls_conflict x ((grid_of n table).cell j c))) same clash)

  -- C's sides are lawful in the corrected table
  corrected-lawful : LawfulSides 2 (grid_of n table) everything everything (side_in n bytes)
  unfolding grid_of isnt
  corrected-lawful =
      let e = same_size in
      record {
        on = λ i h t. w.sides.fits.on i (omega arith);
        off = λ i h t. absurd t;
        apart = λ i j c hi hj hc ki kj kept. one-letter i j c (omega arith) (omega arith) hc;
      }

  -- a mark of 1 says kept, and so does a side
  one_kept : (x : ℕ) → 1 ≤ x → T (isnt (x =? 0))
  one_kept x h = ne-isnt x 0 (λ e. omega arith)

  -- the cells that differ, turned, are the corrected table's
  as-corrected : (i j c : ℕ) → i < fragments given → j < fragments given → c < n → T (conflict_on (turned (grid_of n given) (differs (grid_of n given) (grid_of n table))) c i j) → T (conflict_on (grid_of n table) c i j)
  unfolding grid_of conflict_on
  as-corrected i j c hi hj hc t = subst₂ (λ (x y : ℕ). T (calls_conflict x y)) (sym (w.turns i c hi hc)) (sym (w.turns j c hj hc)) t

  module _ {side : ℕ → ℕ} (law : LawfulFor (grid_of n table) bytes side) where
    has-side : (i : ℕ) → i < fragments given → T (isnt (side_in n bytes i =? 0))
    unfolding grid_of
    has-side i h = one_kept (side_in n bytes i) (w.sides.fits.on i h).0

    -- sides that are lawful in the corrected table cost at most the cells corrected, and no sides cost less
    lawful-cost : SidesCost 2 (grid_of n given) number side
    unfolding grid_of
    lawful-cost = record { on = on; costs = le_antisymm upper (w.cheapest side _ (record { on = on; costs = refl })) }
      where
        on : (i : ℕ) → i < fragments given → (1 ≤ side i) × (side i ≤ 2)
        on i h = let e = same_size in law.on i (omega arith) (has-side i h)

        at : (i : ℕ) → i < fragments given → get_or (tab (fragments given) side) i 0 ≡ side i
        at i h = get_or-tab (fragments given) side i 0 h

        upper : cost 2 (grid_of n given) (tab (fragments given) side) ≤ number
        upper =
            subst (λ (x : ℕ). cost 2 (grid_of n given) (tab (fragments given) side) ≤ x) w.fewest.count
            (cost-bound (grid_of n given) (tab (fragments given) side) 2 (λ i h. rw (at i h) (on i h)) (differs (grid_of n given) (grid_of n table)) λ i j c hi hj hc e clash.
            let m = same_size in
            let mark = w.marks c hc in
            law.apart i j c (omega arith) (omega arith) hc (has-side i hi) (has-side j hj) (one_kept (keep_mark_in bytes c) (omega arith))
            (sym (at i hi) ∙ e ∙ at j hj) (as-corrected i j c hi hj hc clash))

  -- C's answer, in the corrected table
  pub corrected-phases : CorrectedPhase n given bytes table number
  unfolding grid_of
  corrected-phases = record { blocks = phases (grid_of n table) bytes w.phased.blocks (own-lawful (grid_of n table) bytes corrected-lawful (λ c t. tt) (λ i t. tt)); costs = λ side law. lawful-cost law }
