-- What pack writes, record by record, and what it returns, stage by stage.
-- Assumes nothing.
use Rattle.std.specs.Prelude.{if◌then◌else◌}
use mathlib.Core.Path.{◌≡◌, refl, sym, ap, ◌∙◌}
use mathlib.Core.Bool.{Bool}
use mathlib.Core.List.Memᴰ
use mathlib.Core.List.{List, ◌++◌, append_assoc, append-nil}
use Prim.Native.Nat.{ℕ, zero, suc, ◌+◌, ◌*◌, ◌-◌, ◌≤◌, ◌<◌}
use native.Mathlib.Nat.{add-zero, add-sub_cancel_left}
use native.Mathlib.Numerals.{add-one}
use native.Mathlib.Omega.{arith}
use lib.Dec.{T}
use lib.ListN.{length, get_or, drop}
use lib.Seq.{take_at, drop_at, drop-drop, drop-length}
use borrow.Rule.Slice.PartMut.{put_mid}
use Rattle.below.specs.Below.{tab, tab_from, concat}
use Rattle.fields.specs.Writing.{record_of, codes_of, writable, RecordWritten, row_of, packed}
use Rattle.records.specs.Outcome.{Verdict, accepted, refused}
use Rattle.records.specs.Rules.{decide}
use Rattle.below.proofs.BelowLaws.{both, is_true, is_false, eq-=?, ne-isnt, T-isnt-isnt}
use Rattle.below.proofs.RowLaws.{length-laid-out}
use Rattle.records.proofs.PackLaws.{length-record_of}
use Rattle.records.proofs.RuleLaws.{decide-accepted, rule-broken, rule-kept, decide-none, stage-kept, stage-refused, accepted-stage}
use Rattle.conflicts.specs.Services.{written, length_rule, pack_size_rules, pack_rules, pack_leaves}
use Rattle.conflicts.proofs.Outcomes.{pack-refused}
use Rattle.packing.specs.Algorithm.Sizes.{PackSized, FragmentsKept, fragments_rules}

-- ---- the table, record by record

-- what writing the record of a writable grade and row into 32 bytes leaves
pub record-written : {t g : ℕ} {row old new : List ℕ} {done : Bool} → RecordWritten t g row old new done → length old ≡ 32 → T (writable (length row) g (codes_of row)) → new ≡ record_of (length row) t g (codes_of row)
record-written {t} {g} {row} {old} {new} {done} w e t0 =
    w.bytes ∙ ap (λ (b : Bool). if b then record_of (length row) t g (codes_of row) else old) (w.answer ∙ sym (is_true _ (both _ _ (eq-=? _ _ e) t0)))

snoc-from : (f : ℕ → List ℕ) (k i : ℕ) → concat (tab_from k (suc i) f) ≡ concat (tab_from k i f) ++ f (k + i)
unfolding tab_from concat
snoc-from f k zero = rw (add-zero, append-nil)
snoc-from f k (suc i) =
    let e : suc k + i ≡ k + suc i = omega arith in
    rw (snoc-from f (suc k) i, e, append_assoc)

rows_more : (f : ℕ → List ℕ) (i : ℕ) → concat (tab (i + 1) f) ≡ concat (tab i f) ++ f i
unfolding tab
rows_more f i =
    let z : 0 + i ≡ i = omega arith in
    rw add-one (snoc-from f 0 i ∙ ap (λ (j : ℕ). concat (tab_from 0 i f) ++ f j) z)

-- the record of fragment i
abbrev pub record_for : ℕ → List ℕ → List ℕ → List ℕ → ℕ → List ℕ
record_for n cells tags grades i = record_of n (get_or tags i 0) (get_or grades i 0) (row_of n cells i)

-- the records of the fragments before i stand in the table, and from there on it is the old one
pub record Laid (n : ℕ) (cells tags grades old : List ℕ) (i : ℕ) (table : List ℕ) : Type 0 where
  pub within : i ≤ length tags
  pub sized : length table ≡ 32 * length tags
  pub laid : table ≡ concat (tab i (record_for n cells tags grades)) ++ drop (i * 32) old

module _ (n : ℕ) (cells tags grades old : List ℕ) where
  pub laid_none : length old ≡ 32 * length tags → Laid n cells tags grades old 0 old
  unfolding tab tab_from concat
  laid_none e = record { within = omega arith; sized = e; laid = refl }

  pub laid_more : (i : ℕ) {table part : List ℕ} → Laid n cells tags grades old i table → i < length tags → length (put_mid (32 * i) (32 * i + 32 - 32 * i) table part) ≡ length table
      → part ≡ record_for n cells tags grades i → Laid n cells tags grades old (i + 1) (put_mid (32 * i) (32 * i + 32 - 32 * i) table part)
  laid_more i {table} {part} before h same e =
      let f = record_for n cells tags grades in
      let R = concat (tab i f) in
      let X = drop (i * 32) old in
      let long : length R ≡ i * 32 = length-laid-out 32 f (λ j. length-record_of n (get_or tags j 0) (get_or grades j 0) (row_of n cells j)) i in
      let a : 32 * i ≡ i * 32 = omega arith in
      let d : (i + 1) * 32 ≡ i * 32 + 32 = omega arith in
      record {
        within = omega arith;
        sized = same ∙ before.sized;
        laid = rw (a, before.laid, e, add-sub_cancel_left (i * 32) 32, take_at R X (i * 32) long, drop_at R X (i * 32) long, drop-drop 32 (i * 32) old, rows_more f i, append_assoc, d);
      }

  pub laid-all : length old ≡ 32 * length tags → (i : ℕ) (table : List ℕ) → Laid n cells tags grades old i table → length tags ≤ i → table ≡ packed n cells tags grades
  unfolding packed
  laid-all e i table all h =
      let w = all.within in
      let s : i ≡ length tags = omega arith in
      let d : length tags * 32 ≡ length old = omega arith in
      all.laid ∙ rw (s, d, drop-length, append-nil)

-- ---- what pack returns and leaves, stage by stage

module _ (n : ℕ) (cells tags grades table : List ℕ) where
  pub pack-sizes : (number place : ℕ) → decide (pack_size_rules n cells tags grades) (accepted (length tags)) ≡ refused number place → (pack_leaves n cells tags grades table).outcome ≡ refused number place
  unfolding pack_leaves pack_rules
  pack-sizes number place e = stage-refused _ _ _ _ number place e

  module _ (sized : PackSized n cells tags grades) where
    pub pack-length : (length table ≡ 32 * length tags → ⊥) → (pack_leaves n cells tags grades table).outcome ≡ refused 11 0
    unfolding pack_leaves pack_rules length_rule
    pack-length f = stage-kept _ _ _ _ _ sized.kept ∙ stage-refused _ _ 0 _ 11 0 (rule-broken _ _ _ (sym (is_true _ (ne-isnt _ _ f))))

    pub pack-fragments : length table ≡ 32 * length tags → (pack_leaves n cells tags grades table).outcome ≡ decide (fragments_rules n cells tags grades) (accepted (length tags))
    unfolding pack_leaves pack_rules length_rule fragments_rules
    pack-fragments e =
        stage-kept _ _ _ _ _ sized.kept
        ∙ stage-kept _ _ 0 _ 0 (rule-kept _ _ _ (sym (is_false _ (T-isnt-isnt _ (eq-=? _ _ e)))) ∙ decide-none _)

  module _ (m : ℕ) (e : (pack_leaves n cells tags grades table).outcome ≡ accepted m) where
    pub accepted-sizes : PackSized n cells tags grades
    unfolding pack_leaves pack_rules
    accepted-sizes = record { kept = accepted-stage _ _ m e _ (Memᴰ.head refl) }

    pub accepted-fragments : FragmentsKept n cells tags grades
    unfolding pack_leaves pack_rules fragments_rules
    accepted-fragments = record {
      kept = decide-accepted _ _ m _ (sym (stage-kept _ _ _ _ _ accepted-sizes.kept ∙ stage-kept _ _ _ _ _ (accepted-stage _ _ m e _ (Memᴰ.tail (Memᴰ.head refl)))) ∙ e);
    }

  -- a refusal, as the contract has it
  pub pack-refuses : (number place : ℕ) → (pack_leaves n cells tags grades table).outcome ≡ refused number place
      → (refused number place ≡ (pack_leaves n cells tags grades table).outcome) × (table ≡ (pack_leaves n cells tags grades table).table)
  pack-refuses number place e = (sym e, sym (pack-refused n number place cells tags grades table e))

  -- an acceptance, as the contract has it
  pub pack-accepts : (k : ℕ) → (pack_leaves n cells tags grades table).outcome ≡ accepted k
      → (accepted k ≡ (pack_leaves n cells tags grades table).outcome) × (packed n cells tags grades ≡ (pack_leaves n cells tags grades table).table)
  unfolding pack_leaves
  pack-accepts k e = (sym e, sym (ap (λ (v : Verdict). written v (packed n cells tags grades) table) e))

-- what pack ensures, from the facts in the order of its clauses
pub clauses-outcome-table : {A B : Type 0} → A × B → record { outcome : A; table : B }
clauses-outcome-table w = record { outcome = w.0; table = w.1 }
