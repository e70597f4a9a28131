-- What unpack writes, cell by cell, and what it returns, stage by stage.
-- Assumes nothing.
use Rattle.std.specs.Prelude.{if◌then◌else◌}
use mathlib.Core.Path.{◌≡◌, refl, sym, ap, ◌∙◌}
use mathlib.Core.List.Memᴰ
use mathlib.Core.List.{List, [], ◌∷◌}
use Prim.Native.Nat.{ℕ, ◌+◌, ◌*◌, ◌<◌}
use lib.ListN.{length, get_or}
use denote.Ref.{Bor}
use Rattle.below.specs.Below.{◌<?◌, concat}
use Rattle.fields.specs.Record.{code_at}
use Rattle.fields.specs.Table.{fragments, record_bytes_at, Part, part_start, part_length, unpacked_cells, unpacked_tags, unpacked_grades}
use Rattle.records.specs.Outcome.{Verdict, accepted, refused}
use Rattle.records.specs.Rules.{Rule, decide, size_rules, table_rules}
use Rattle.below.proofs.BelowLaws.{if-true, lt-<?, is_true, ne-isnt}
use Rattle.records.proofs.RuleLaws.{accepted-count, rule-broken, decide-none, stage-kept, stage-refused, stage-last, accepted-stage}
use Rattle.conflicts.specs.Services.{written, length_rule, unpack_rules, unpack_leaves}
use Rattle.conflicts.proofs.Outcomes.{unpack-refused}
use Rattle.conflicts.proofs.AcceptedServices.{length-kept}
use Rattle.records.specs.Algorithm.Kept.{SizesKept}
use Rattle.records.proofs.AcceptedLaws.{sized-count}
use Rattle.below.proofs.RowLaws.{length-flat, flat-at}
use Rattle.fields.proofs.PartLaws.{part-record}

-- the cells are m rows of n
pub unpacked-length : (n : ℕ) (table : List ℕ) → length (unpacked_cells n table) ≡ fragments table * n
unfolding unpacked_cells
unpacked-length n table = length-flat n (λ i. code_at (record_bytes_at table i)) (fragments table)

-- cell c of row i, from the part that record_at gave
pub unpacked-row : (n : ℕ) (t : Bor (List ℕ)) (i c : ℕ) (part : Bor (List ℕ)) {first : ℕ} → first ≡ i * n → Part t (part_start t.now i) (part_length t.now i) part → i < fragments t.now → c < n
    → (if c <? n then code_at part.now c else 0) ≡ get_or (unpacked_cells n t.now) (first + c) 0
unfolding unpacked_cells
unpacked-row n t i c part e p g h =
    if-true (c <? n) (code_at part.now c) 0 (lt-<? c n h)
    ∙ ap (λ (l : List ℕ). code_at l c) (part-record t i part p g)
    ∙ sym (flat-at n (λ i. code_at (record_bytes_at t.now i)) 0 (fragments t.now) i c g h)
    ∙ ap (λ (k : ℕ). get_or (unpacked_cells n t.now) (k + c) 0) (sym e)

-- 11, broken
length-broken : (output : List ℕ) (exact : ℕ) (v : Verdict) (rest : List Rule) → (length output ≡ exact → ⊥) → decide (length_rule output exact ∷ rest) v ≡ refused 11 0
unfolding length_rule
length-broken output exact v rest f = rule-broken _ _ _ (sym (is_true _ (ne-isnt _ _ f)))

-- ---- what an accepted unpack keeps and leaves

module _ (n k : ℕ) (table cells tags grades : List ℕ) (e : (unpack_leaves n table cells tags grades).outcome ≡ accepted k) where
  pub accepted-sized : SizesKept n (fragments table) table
  unfolding unpack_leaves unpack_rules
  accepted-sized = record { kept = accepted-stage _ _ k e _ (Memᴰ.head refl) }

  pub accepted-records : decide (table_rules n table) (accepted (fragments table)) ≡ accepted (fragments table)
  unfolding unpack_leaves unpack_rules
  accepted-records = accepted-stage _ _ k e _ (Memᴰ.tail (Memᴰ.tail (Memᴰ.head refl)))

  pub left-cells : (unpack_leaves n table cells tags grades).cells ≡ unpacked_cells n table
  unfolding unpack_leaves
  left-cells = ap (λ (v : Verdict). written v (unpacked_cells n table) cells) e

  pub left-tags : (unpack_leaves n table cells tags grades).tags ≡ unpacked_tags table
  unfolding unpack_leaves
  left-tags = ap (λ (v : Verdict). written v (unpacked_tags table) tags) e

  pub left-grades : (unpack_leaves n table cells tags grades).grades ≡ unpacked_grades table
  unfolding unpack_leaves
  left-grades = ap (λ (v : Verdict). written v (unpacked_grades table) grades) e

-- ---- what unpack returns and leaves, stage by stage

module _ (n m : ℕ) (table cells tags grades : List ℕ) where
  pub unpack-sizes : (number place : ℕ) → decide (size_rules n table) (accepted (fragments table)) ≡ refused number place → (unpack_leaves n table cells tags grades).outcome ≡ refused number place
  unfolding unpack_leaves unpack_rules
  unpack-sizes number place e = stage-refused _ _ _ _ number place e

  module _ (sized : SizesKept n m table) where
    lengths : List Rule
    lengths = length_rule cells (fragments table * n) ∷ length_rule tags (fragments table) ∷ length_rule grades (fragments table) ∷ []

    after-sizes : (unpack_leaves n table cells tags grades).outcome ≡ decide (concat (lengths ∷ table_rules n table ∷ [])) (accepted (fragments table))
    unfolding unpack_leaves unpack_rules lengths
    after-sizes = stage-kept _ _ _ _ m sized.kept

    -- 11, of a buffer that is to hold m × n cells, or m tags or grades
    of-cells : length cells ≡ m * n → length cells ≡ fragments table * n
    of-cells e = e ∙ ap (λ (k : ℕ). k * n) (sym (sized-count sized))

    of-fragments : (buffer : List ℕ) → length buffer ≡ m → length buffer ≡ fragments table
    of-fragments buffer e = e ∙ sym (sized-count sized)

    pub unpack-cells : (length cells ≡ m * n → ⊥) → (unpack_leaves n table cells tags grades).outcome ≡ refused 11 0
    unfolding lengths
    unpack-cells f = after-sizes ∙ stage-refused _ _ 0 _ 11 0 (length-broken cells _ _ _ (λ e. f (e ∙ ap (λ (k : ℕ). k * n) (sized-count sized))))

    pub unpack-tags : length cells ≡ m * n → (length tags ≡ m → ⊥) → (unpack_leaves n table cells tags grades).outcome ≡ refused 11 0
    unfolding lengths
    unpack-tags e f = after-sizes ∙ stage-refused _ _ 0 _ 11 0 (length-kept cells _ _ _ (of-cells e) ∙ length-broken tags _ _ _ (λ d. f (d ∙ sized-count sized)))

    pub unpack-grades : length cells ≡ m * n → length tags ≡ m → (length grades ≡ m → ⊥) → (unpack_leaves n table cells tags grades).outcome ≡ refused 11 0
    unfolding lengths
    unpack-grades e d f = after-sizes ∙ stage-refused _ _ 0 _ 11 0 (
        length-kept cells _ _ _ (of-cells e) ∙ length-kept tags _ _ _ (of-fragments tags d) ∙ length-broken grades _ _ _ (λ h. f (h ∙ sized-count sized)))

    pub unpack-records : length cells ≡ m * n → length tags ≡ m → length grades ≡ m → (unpack_leaves n table cells tags grades).outcome ≡ decide (table_rules n table) (accepted (fragments table))
    unfolding lengths
    unpack-records e d h = after-sizes ∙ stage-kept _ _ 0 _ 0 (
        length-kept cells _ _ _ (of-cells e) ∙ length-kept tags _ _ _ (of-fragments tags d) ∙ length-kept grades _ _ _ (of-fragments grades h) ∙ decide-none _)
        ∙ stage-last _ _

  -- a refusal, as the contract has it
  pub unpack-refuses : (number place : ℕ) → (unpack_leaves n table cells tags grades).outcome ≡ refused number place
      → (refused number place ≡ (unpack_leaves n table cells tags grades).outcome) × ((cells ≡ (unpack_leaves n table cells tags grades).cells) × ((tags ≡ (unpack_leaves n table cells tags grades).tags) × (grades ≡ (unpack_leaves n table cells tags grades).grades)))
  unpack-refuses number place e = let r = unpack-refused n number place table cells tags grades e in (sym e, (sym r.0, (sym r.1, sym r.2)))

  -- an acceptance, as the contract has it
  pub unpack-accepts : (k : ℕ) → fragments table ≡ m → (unpack_leaves n table cells tags grades).outcome ≡ decide (table_rules n table) (accepted (fragments table))
      → decide (table_rules n table) (accepted (fragments table)) ≡ accepted k
      → (accepted m ≡ (unpack_leaves n table cells tags grades).outcome) × ((unpacked_cells n table ≡ (unpack_leaves n table cells tags grades).cells) × ((unpacked_tags table ≡ (unpack_leaves n table cells tags grades).tags) × (unpacked_grades table ≡ (unpack_leaves n table cells tags grades).grades)))
  unpack-accepts k count e d =
      let v = e ∙ d in
      (ap accepted (sym count ∙ accepted-count (table_rules n table) (fragments table) k d) ∙ sym v, (sym (left-cells n k table cells tags grades v), (sym (left-tags n k table cells tags grades v), sym (left-grades n k table cells tags grades v))))

-- what unpack ensures, from the facts in the order of its clauses
pub clauses-outcome-cells-tags-grades : {A B C D : Type 0} → A × (B × (C × D)) → record { outcome : A; cells : B; tags : C; grades : D }
clauses-outcome-cells-tags-grades w = record { outcome = w.0; cells = w.1.0; tags = w.1.1.0; grades = w.1.1.1 }
