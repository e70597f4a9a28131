-- Where record i lies in a table, and the bytes that it has.
-- Assumes nothing.
use mathlib.Core.Path.{◌≡◌, ap, ap₂, ◌∙◌}
use mathlib.Core.List.{List, []}
use Prim.Native.Nat.{ℕ, ◌+◌, ◌*◌, ◌<◌, ◌≤◌}
use native.Mathlib.Nat.{add_comm}
use lib.ListN.{length, take, drop}
use denote.Ref.{Bor}
use Rattle.fields.specs.Table.{fragments, record_bytes_at, Part, part_start, part_length}
use Rattle.below.proofs.SearchLaws.{<?-true, <?-false}

module _ (t : List ℕ) (i : ℕ) where
  pub start-in : i < fragments t → part_start t i ≡ 32 * i
  unfolding part_start
  start-in h = rw (<?-true i (fragments t) h)

  pub start-past : fragments t ≤ i → part_start t i ≡ length t
  unfolding part_start
  start-past h = rw (<?-false i (fragments t) h)

  pub length-in : i < fragments t → part_length t i ≡ 32
  unfolding part_length
  length-in h = rw (<?-true i (fragments t) h)

  pub length-past : fragments t ≤ i → part_length t i ≡ 0
  unfolding part_length
  length-past h = rw (<?-false i (fragments t) h)

  record-in : i < fragments t → take (part_length t i) (drop (part_start t i) t) ≡ record_bytes_at t i
  unfolding record_bytes_at
  record-in h = rw (start-in h, length-in h)

-- a part that record_at gave, by the record that it is
pub part-record : (t : Bor (List ℕ)) (i : ℕ) (part : Bor (List ℕ)) → Part t (part_start t.now i) (part_length t.now i) part → i < fragments t.now → part.now ≡ record_bytes_at t.now i
part-record t i part p h = p.bytes ∙ record-in t.now i h

-- past the whole records it is empty
pub part-past : (t : Bor (List ℕ)) (i : ℕ) (part : Bor (List ℕ)) → Part t (part_start t.now i) (part_length t.now i) part → fragments t.now ≤ i → part.now ≡ []
part-past t i part p h = p.bytes ∙ ap (λ (k : ℕ). take k (drop (part_start t.now i) t.now)) (length-past t.now i h)

-- a part as the borrow checker has it, put as `Part` has it
pub place_at : (b o : ℕ) {a x : ℕ} → a ≡ x → ◌≡◌ {A = ℕ × ℕ} (b, a + o) (b, o + x)
place_at b o {a} {x} p = ap (λ (k : ℕ). (b, k)) (add_comm a o ∙ ap (λ (k : ℕ). o + k) p)

pub bytes-at : (t : List ℕ) {k n a x : ℕ} → k ≡ n → a ≡ x → take k (drop a t) ≡ take n (drop x t)
bytes-at t p q = ap₂ (λ (k a : ℕ). take k (drop a t)) p q
