-- Unpack and pack undo each other on what they accept. Unpack accepts what pack gives, and pack what unpack gives of a table with calls in each record.
-- Assumes nothing.
use mathlib.Core.Path.{◌≡◌, sym, ap, subst, ◌∙◌}
use mathlib.Core.Logic.{inl, inr}
use mathlib.Core.List.{List}
use Prim.Native.Nat.{ℕ, ◌*◌, ◌<◌}
use native.Mathlib.Nat.{pos_of_ne-zero}
use native.Mathlib.Omega.{arith}
use lib.ListN.{length, get_or}
use Rattle.below.specs.Below.{◌=?◌, tab}
use Rattle.fields.specs.Record.{start_of, span_of, code_at}
use Rattle.fields.specs.Table.{fragments, record_bytes_at, start_at, tag_at, unpacked_cells, unpacked_tags, unpacked_grades}
use Rattle.fields.specs.Writing.{row_of, packed}
use Rattle.records.specs.Outcome.{Verdict, accepted}
use Rattle.records.specs.Rules.{rule, decide, earlier_rules, table_rules}
use Rattle.records.proofs.RuleLaws.{NoneBroken, places-kept, places-refused}
use Rattle.records.proofs.OrderLaws.{earlier-same}
use Rattle.records.proofs.PackLaws.{Sound, calls_same, sound-narrow, sound-grade, span-record_of, start-record_of}
use Rattle.records.proofs.SoundLaws.{sound-row-start, sound-row-span, sound-row-small, record_of-sound}
use Rattle.records.proofs.TableLaws.{Packable, length_whole, length-unpacked_cells, length-unpacked_tags, length-unpacked_grades, tag-unpacked, grade-unpacked, row-unpacked, table-again, length-packed, fragments-packed, record-packed, tag-packed, tags-again, grades-again, unpacked-again}
use Rattle.records.proofs.AcceptedLaws.{few-columns, whole-records, few-fragments, accepted-sound, accepted-earlier}
use Rattle.records.proofs.KeptLaws.{sizes-kept, rows-kept, record-kept}
use Rattle.below.proofs.BelowLaws.{isnt-=?, ne-isnt}
use Rattle.below.proofs.SearchLaws.{lowest-or-none}
use Rattle.conflicts.specs.Services.{packed_start, packed_tag, unpack_leaves, pack_leaves}
use Rattle.conflicts.proofs.Outcomes.{pack-refused}
use Rattle.records.specs.Algorithm.Kept.{SizesKept}
use Rattle.packing.specs.Algorithm.Sizes.{PackSized, FragmentsKept}
use Rattle.packing.specs.RoundTrips.{NumbersBelow, UnpackCall, PackCall, TableRestored, EmptyRefused, SpansOverZero, FirstEmpty, UnpackThenPack, UnpackThenRefused, SpansOrEmpty, PackThenUnpack, PackWritesCalls}
use Rattle.packing.proofs.SizeLaws.{pack-n, pack-exact, pack-graded, pack-m, pack-sized-of}
use Rattle.packing.proofs.UnpackLaws.{accepted-sized, accepted-records, left-cells, left-tags, left-grades, unpack-records}
use Rattle.packing.proofs.FragmentLaws.{kept-grade, kept_small, kept-calls, kept-narrow, kept-earlier, calls-decide}
use Rattle.packing.proofs.PackLaws.{pack-fragments, accepted-sizes, accepted-fragments, pack-accepts}

-- ---- table, its contents, table

-- the verdict on a table by 17 alone
abbrev by_calls : List ℕ → ℕ → Verdict
by_calls table count = decide (tab (fragments table) (λ i. rule 17 i (span_of (record_bytes_at table i) =? 0))) (accepted count)

module _ (n : ℕ) (table : List ℕ) (sized : SizesKept n (fragments table) table) (kept : decide (table_rules n table) (accepted (fragments table)) ≡ accepted (fragments table)) where
  sound : (i : ℕ) → i < fragments table → Sound n (record_bytes_at table i)
  sound i l = accepted-sound n table _ _ kept i l

  unpacked-sized : PackSized n (unpacked_cells n table) (unpacked_tags table) (unpacked_grades table)
  unpacked-sized =
      let m = length-unpacked_tags table in
      let few = few-fragments n table _ _ sized.kept in
      pack-sized-of (few-columns n table _ _ sized.kept) (length-unpacked_cells table n ∙ ap (λ (k : ℕ). k * n) (sym m)) (length-unpacked_grades table ∙ sym m) (omega arith)

  -- the start and the tag of a record are those that pack would write
  earlier-unpacked : (i : ℕ) → i < fragments table → earlier_rules (start_at table) (tag_at table) i ≡ earlier_rules (packed_start n (unpacked_cells n table)) (packed_tag (unpacked_tags table)) i
  earlier-unpacked i l =
      earlier-same i
      (λ h k.
      let inside : h < fragments table = omega arith in
      sym ((calls_same n (row_of n (unpacked_cells n table) h) (code_at (record_bytes_at table h)) (row-unpacked table n h inside)).0 ∙ sound-row-start n (record_bytes_at table h) (sound h inside)))
      (λ h k. sym (tag-unpacked table h (omega arith)))

  -- pack's verdict on what unpack gave
  unpacked-verdict : (out : List ℕ) → length out ≡ length table → (pack_leaves n (unpacked_cells n table) (unpacked_tags table) (unpacked_grades table) out).outcome ≡ by_calls table (fragments table)
  unpacked-verdict out e =
      let m = length-unpacked_tags table in
      let w = length_whole table (whole-records n table _ _ sized.kept) in
      pack-fragments n _ _ _ out unpacked-sized (omega arith)
      ∙ calls-decide n _ _ (unpacked_grades table) (λ i. span_of (record_bytes_at table i)) _ m
      (λ i l. let e = grade-unpacked table i l in let s = sound-grade n (record_bytes_at table i) (sound i l) in omega arith)
      (λ i l c k. let e = row-unpacked table n i l c k in let s = sound-row-small n (record_bytes_at table i) (sound i l) c in omega arith)
      (λ i l. (calls_same n (row_of n (unpacked_cells n table) i) (code_at (record_bytes_at table i)) (row-unpacked table n i l)).1 ∙ sound-row-span n (record_bytes_at table i) (sound i l))
      (λ i l. sound-narrow n (record_bytes_at table i) (sound i l))
      (λ i l. subst NoneBroken (earlier-unpacked i l) (accepted-earlier n table _ _ kept i l))
      ∙ ap (by_calls table) m

-- a call of unpack that accepts, and one of pack on what it left
module _ (n m : ℕ) (table cells tags grades cells_left tags_left grades_left out table_left : List ℕ) (first second : Verdict) (unpacks : UnpackCall n table cells tags grades first cells_left tags_left grades_left) (accepts : first ≡ accepted m)
    (exact : length out ≡ length table) (packs : PackCall n cells_left tags_left grades_left out second table_left) where
  taken : (unpack_leaves n table cells tags grades).outcome ≡ accepted m
  taken = sym unpacks.outcome ∙ accepts

  sizes : SizesKept n (fragments table) table
  sizes = accepted-sized n m table cells tags grades taken

  records : decide (table_rules n table) (accepted (fragments table)) ≡ accepted (fragments table)
  records = accepted-records n m table cells tags grades taken

  packs-unpacked : PackCall n (unpacked_cells n table) (unpacked_tags table) (unpacked_grades table) out second table_left
  packs-unpacked =
      subst (λ (c : List ℕ). PackCall n c (unpacked_tags table) (unpacked_grades table) out second table_left) (unpacks.cells_are ∙ left-cells n m table cells tags grades taken)
      (subst (λ (t : List ℕ). PackCall n cells_left t (unpacked_grades table) out second table_left) (unpacks.tags_are ∙ left-tags n m table cells tags grades taken)
      (subst (λ (g : List ℕ). PackCall n cells_left tags_left g out second table_left) (unpacks.grades_are ∙ left-grades n m table cells tags grades taken) packs))

  verdict : second ≡ by_calls table (fragments table)
  verdict = packs-unpacked.outcome ∙ unpacked-verdict n table sizes records out exact

  restored : NumbersBelow 256 table → SpansOverZero table → TableRestored table second table_left
  restored bytes over =
      let done = verdict ∙ places-kept _ _ (fragments table) (λ i l. ne-isnt _ _ (λ e. let o = over i l in omega arith)) in
      record {
        accepts = done;
        restores =
            packs-unpacked.table_is
            ∙ sym (pack-accepts n _ _ _ out _ (sym packs-unpacked.outcome ∙ done)).1
            ∙ table-again n table (whole-records n table _ _ sizes.kept) bytes.fits (sound n table sizes records);
      }

  refused-empty : (i : ℕ) → FirstEmpty table i → EmptyRefused i out second table_left
  refused-empty i empty =
      let done = verdict ∙ places-refused _ _ (fragments table) i empty in
      record { refuses = done; untouched = packs-unpacked.table_is ∙ pack-refused n 17 i _ _ _ out (sym packs-unpacked.outcome ∙ done) }

-- every table of bytes that unpack accepts, with calls in each record, is restored, byte for byte, by packing what unpack gives
pub table-round : UnpackThenPack
table-round = restored

-- of another table that unpack accepts, packing what unpack gives is refused by 17 at its first record without calls
pub empty_round : UnpackThenRefused
empty_round = refused-empty

pub spans-or-empty : SpansOrEmpty
spans-or-empty table = elim (lowest-or-none (fragments table) (λ i. span_of (record_bytes_at table i) =? 0)) [ inl e ↦ inr e | inr f ↦ inl (λ i l. pos_of_ne-zero (isnt-=? _ _ (f i l))) ]

-- ---- cells, tags and grades, table, the same again

module _ (n : ℕ) (cells tags grades : List ℕ) (sized : PackSized n cells tags grades) (fragments-kept : FragmentsKept n cells tags grades) (bits : (i : ℕ) → i < length tags → get_or tags i 0 < 4294967296) where
  packable : Packable n cells tags grades
  packable = record { wide = pack-n sized; exact = pack-exact sized; graded = pack-graded sized; narrow = kept-narrow fragments-kept; small = kept_small fragments-kept; bits = bits }

  packed-sized : SizesKept n (length tags) (packed n cells tags grades)
  packed-sized =
      let e = length-packed n cells tags grades in
      let m = fragments-packed n cells tags grades in
      let few = pack-m sized in
      record { kept = sizes-kept n (packed n cells tags grades) _ (pack-n sized) (omega arith) (omega arith) ∙ ap accepted m }

  -- the start and the tag of a record are those of its fragment
  earlier-packed : (i : ℕ) → i < length tags → earlier_rules (start_at (packed n cells tags grades)) (tag_at (packed n cells tags grades)) i ≡ earlier_rules (packed_start n cells) (packed_tag tags) i
  earlier-packed i l =
      earlier-same i
      (λ h k. ap start_of (record-packed n cells tags grades h (omega arith)) ∙ start-record_of n (get_or tags h 0) (get_or grades h 0) (row_of n cells h) (pack-n sized))
      (λ h k. tag-packed n cells tags grades packable h (omega arith))

  packed-records : decide (table_rules n (packed n cells tags grades)) (accepted (fragments (packed n cells tags grades))) ≡ accepted (fragments (packed n cells tags grades))
  unfolding table_rules
  packed-records =
      let m = fragments-packed n cells tags grades in
      rows-kept _ (fragments (packed n cells tags grades)) _ (λ i l0.
      let l : i < length tags = omega arith in
      let row = row_of n cells i in
      let same = sym (record-packed n cells tags grades i l) in
      record-kept n (packed n cells tags grades) i _
      (subst (Sound n) same (record_of-sound n (get_or tags i 0) (get_or grades i 0) row (kept-grade fragments-kept i l) (pack-n sized) (kept_small fragments-kept i l) (kept-narrow fragments-kept i l)))
      (subst NoneBroken (sym (earlier-packed i l)) (kept-earlier fragments-kept i l)))

  unpack-packed : (cells_out tags_out grades_out : List ℕ) → length cells_out ≡ length cells → length tags_out ≡ length tags → length grades_out ≡ length grades
      → (unpack_leaves n (packed n cells tags grades) cells_out tags_out grades_out).outcome ≡ accepted (length tags)
  unpack-packed cells_out tags_out grades_out e d g =
      unpack-records n (length tags) (packed n cells tags grades) cells_out tags_out grades_out packed-sized (e ∙ pack-exact sized) d (g ∙ pack-graded sized) ∙ packed-records ∙ ap accepted (fragments-packed n cells tags grades)

-- all cells, tags of 32 bits and grades that pack accepts are restored by unpacking what pack gives
pub cells-round : PackThenUnpack
cells-round n m cells tags grades table table_left cells_out tags_out grades_out cells_left tags_left grades_left first second bits packs accepts same-cells same-tags same-grades unpacks =
    let e = sym packs.outcome ∙ accepts in
    let sized = accepted-sizes n cells tags grades table m e in
    let kept = accepted-fragments n cells tags grades table m e in
    let done = unpack-packed n cells tags grades sized kept bits.fits cells_out tags_out grades_out same-cells same-tags same-grades in
    let a = packs.table_is ∙ sym (pack-accepts n cells tags grades table m e).1 in
    let whole = packable n cells tags grades sized kept bits.fits in
    record {
      accepts = unpacks.outcome ∙ rw a done;
      restores_cells = unpacks.cells_are ∙ rw a (left-cells n _ (packed n cells tags grades) cells_out tags_out grades_out done ∙ unpacked-again n cells tags grades whole);
      restores_tags = unpacks.tags_are ∙ rw a (left-tags n _ (packed n cells tags grades) cells_out tags_out grades_out done ∙ tags-again n cells tags grades whole);
      restores_grades = unpacks.grades_are ∙ rw a (left-grades n _ (packed n cells tags grades) cells_out tags_out grades_out done ∙ grades-again n cells tags grades whole);
    }

-- a table that pack writes has calls in each record
pub packed-calls : PackWritesCalls
packed-calls n m cells tags grades table table_left verdict packs accepts i l =
    let e = sym packs.outcome ∙ accepts in
    let left = packs.table_is ∙ sym (pack-accepts n cells tags grades table m e).1 in
    let count = ap fragments left ∙ fragments-packed n cells tags grades in
    let inside : i < length tags = omega arith in
    let some = kept-calls (accepted-fragments n cells tags grades table m e) i inside in
    let span = ap (λ (t : List ℕ). span_of (record_bytes_at t i)) left ∙ ap span_of (record-packed n cells tags grades i inside) ∙ span-record_of n (get_or tags i 0) (get_or grades i 0) (row_of n cells i) in
    omega arith
