-- The letters of a record, further up by its start, are those of its fragment.
-- Assumes nothing.
use mathlib.Core.Path.{◌≡◌, refl, sym, ap, ap₂, ◌∙◌}
use mathlib.Core.Bool.{Bool, true, false}
use mathlib.Core.List.{List}
use Prim.Native.Nat.{ℕ, zero, suc, ◌+◌, ◌-◌, ◌≤◌, ◌<◌}
use native.Mathlib.Decide.{dec_lt}
use native.Mathlib.Omega.{arith}
use Rattle.below.specs.Below.{◌=?◌, ◌<?◌, ◌≤?◌, ◌and◌}
use Rattle.below.proofs.SearchLaws.{<?-true, ≤?-true, ≤?-false, =?-false}
use Rattle.places.specs.declared.places.Places.{Places}
use Rattle.places.specs.declared.lines.Line.{Line}
use Rattle.places.specs.Algorithm.Places.{places_where}
use Rattle.places.proofs.PlaceLaws.{where-ext}
use Rattle.fields.specs.Record.{start_of, span_of, cell_of, code_at}
use Rattle.fields.specs.Table.{fragments, record_bytes_at}
use Rattle.fields.specs.Algorithm.Letters.{has_a, has_b, letters_in}
use Rattle.fields.proofs.ByteLaws.{cell-past}
use Rattle.fields.proofs.FieldLaws.{code_at-in, code_at-out}
use Rattle.records.proofs.PackLaws.{Sound, sound-fits, sound-small, sound-after}
use Rattle.records.proofs.AcceptedLaws.{accepted-sound}
use Rattle.records.specs.Algorithm.Kept.{RecordsKept}
use Rattle.conflicts.specs.Grid.{grid_of}
use Rattle.masks.specs.Algorithm.Masks.{has_letter, line_of, Lettered, LetteredTable}
use Rattle.masks.proofs.LineLaws.{line}

-- what holds of 0, 1 and 2 holds of each number up to 2
pub three : (P : ℕ → Type 0) → P 0 → P 1 → P 2 → (x : ℕ) → x ≤ 2 → P x
three P a b c zero h = a
three P a b c (suc zero) h = b
three P a b c (suc (suc zero)) h = c
three P a b c (suc (suc (suc x))) h = absurd (omega arith)

-- the bits of a hole and of a call
a-bit : (x : ℕ) → x ≤ 2 → has_a x ≡ (x =? 1)
unfolding has_a ◌=?◌
a-bit = three (λ x. has_a x ≡ (x =? 1)) refl refl refl

b_bit : (x : ℕ) → x ≤ 2 → has_b x ≡ (x =? 2)
unfolding has_b ◌=?◌
b_bit = three (λ x. has_b x ≡ (x =? 2)) refl refl refl

and_none : (b : Bool) → false ≡ (b and false)
unfolding ◌and◌
and_none true = refl
and_none false = refl

module _ (n : ℕ) (r : List ℕ) (lettered : Lettered n r) (test : ℕ → Bool) (letter : ℕ) (is : (x : ℕ) → x ≤ 2 → test x ≡ (x =? letter)) (some : 0 < letter) where
  none : (x : ℕ) → x ≡ 0 → test x ≡ false
  none x e = is x (omega arith) ∙ =?-false x letter (λ q. omega arith)

  out : (c : ℕ) → (start_of r ≤ c → start_of r + span_of r ≤ c) → false ≡ (c <? n and code_at r c =? letter)
  out c h = and_none (c <? n) ∙ ap (λ (b : Bool). c <? n and b) (sym (=?-false _ letter (λ e. let z = code_at-out r c h in omega arith)))

  -- at column c
  letter_at : (c : ℕ) → (start_of r ≤? c and test (cell_of r (c - start_of r))) ≡ (c <? n and code_at r c =? letter)
  unfolding ◌and◌
  letter_at c = elim (dec_lt c (start_of r)) [
    | yes l ↦ rw (≤?-false (start_of r) c l) (out c (λ h. absurd (omega arith)))
    | no l ↦ elim (dec_lt c (start_of r + span_of r)) [
      | yes h ↦
          let fits = lettered.fits in
          rw (≤?-true (start_of r) c (omega arith), <?-true c n (omega arith), code_at-in r c (omega arith) h) (is _ (lettered.small (c - start_of r) (omega arith)))
      | no h ↦ rw (≤?-true (start_of r) c (omega arith)) (none _ (lettered.after (c - start_of r) (omega arith)) ∙ out c (λ k. omega arith))
    ]
  ]

-- records that keep their rules
pub kept-letters : {n : ℕ} {table : List ℕ} → RecordsKept n table → LetteredTable n table
kept-letters {n} {table} kept = record { each = λ i h. lettered (record_bytes_at table i) (accepted-sound n table _ _ kept.kept i h) }
  where
    lettered : (r : List ℕ) → Sound n r → Lettered n r
    lettered r sound = record {
      fits = sound-fits n r sound;
      small = sound-small n r sound;
      after = λ k h. elim (dec_lt k 96) [ yes l ↦ sound-after n r sound k h l | no l ↦ cell-past r k (omega arith) ];
    }

-- fragment i of a table
module _ {n i : ℕ} {table : List ℕ} (lettered : LetteredTable n table) (inside : i < fragments table) where
  abbrev bytes : List ℕ
  bytes = record_bytes_at table i

  letters-at : (test : ℕ → Bool) (letter : ℕ) → ((x : ℕ) → x ≤ 2 → test x ≡ (x =? letter)) → 0 < letter
      → places_where (λ c. start_of bytes ≤? c and test (cell_of bytes (c - start_of bytes))) ≡ places_where (has_letter (grid_of n table) letter i)
  unfolding has_letter grid_of ◌and◌
  letters-at test letter is some = where-ext _ _ (λ c h. letter_at n bytes (lettered.each i inside) test letter is some c ∙ rw (<?-true i (fragments table) inside))

  pub record-line : {x : Line} {a b : Places} {s : ℕ} → x ≡ letters_in bytes → s ≡ start_of bytes
      → ((p : ℕ → Bool) → x.a ≡ places_where p → a ≡ places_where (λ c. s ≤? c and p (c - s))) → ((p : ℕ → Bool) → x.b ≡ places_where p → b ≡ places_where (λ c. s ≤? c and p (c - s)))
      → line a b ≡ line_of (grid_of n table) i
  unfolding letters_in line_of
  record-line {x} {a} {b} {s} ex es ea eb =
      ap₂ line
      (ea _ (ap (λ (l : Line). l.a) ex) ∙ ap (λ (s : ℕ). places_where (λ c. s ≤? c and has_a (cell_of bytes (c - s)))) es ∙ letters-at has_a 1 a-bit (omega arith))
      (eb _ (ap (λ (l : Line). l.b) ex) ∙ ap (λ (s : ℕ). places_where (λ c. s ≤? c and has_b (cell_of bytes (c - s)))) es ∙ letters-at has_b 2 b_bit (omega arith))
