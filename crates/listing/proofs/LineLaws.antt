-- The second line by check's verdict, and a service's line by its sections.
-- Assumes nothing.
use mathlib.Core.Path.{◌≡◌, refl, ap, ◌∙◌}
use mathlib.Core.List.{List, [], ◌++◌, map, append-nil, append_assoc}
use Prim.Native.Nat.{ℕ, zero, suc, ◌+◌, ◌*◌, ◌-◌, ◌≤◌}
use native.Mathlib.Omega.{arith}
use lib.ListN.{length, get_or, take, drop}
use Rattle.below.specs.Below.{tab}
use Rattle.below.proofs.RowLaws.{tab-ext}
use Rattle.records.specs.Outcome.{Verdict, accepted, refused}
use Rattle.conflicts.specs.Answer.{answer_size, keep_mark_in, haplotype_in, side_in, block_in}
use Rattle.listing.proofs.FieldLaws.{part-mapped}
use Rattle.below.specs.Text.{ascii}
use Rattle.listing.specs.Listing.{digits, letters, sign_of, decimal, block_word, led, joined, field, line, column_fields, fragment_fields, error_free_line, fields}

-- the second line, by what check says
pub yes-line : {v : Verdict} {k : ℕ} → v ≡ accepted k → k ≡ 0 → error_free_line v ≡ ascii "error-free yes\n"
unfolding error_free_line
yes-line e z = rw (e, z)

pub no-line : {v : Verdict} (k : ℕ) → v ≡ accepted k → (k ≡ 0 → ⊥) → error_free_line v ≡ ascii "error-free no\n"
unfolding error_free_line
no-line zero e z = absurd (z refl)
no-line (suc k) e z = rw e

pub refused-line : {v : Verdict} {k p : ℕ} → v ≡ refused k p → error_free_line v ≡ ascii "error-free no\n"
unfolding error_free_line
refused-line e = rw e

-- eight texts in turn, and the same as six words joined between the first and the last
in-turn : (out a b c d e f z : List ℕ) → ((((((out ++ a) ++ b) ++ c) ++ d) ++ e) ++ f) ++ z ≡ out ++ ((a ++ (b ++ (c ++ (d ++ (e ++ (f ++ [])))))) ++ z)
in-turn out a b c d e f z = simp (append_assoc, append-nil)

-- the sections of an answer, each from its first byte on
module _ (m n : ℕ) (answer : List ℕ) (sized : length answer ≡ answer_size m n) where
  section : {A : Type 0} (f : ℕ → A) (at count k : ℕ) (to : ℕ → ℕ) → k ≡ count → at + count ≤ 3 * n + 2 * m → ((i : ℕ) → at + i ≡ to i) → map f (take k (drop at answer)) ≡ tab count (λ i. f (get_or answer (to i) 0))
  unfolding answer_size
  section f at count k to e h same = rw e (part-mapped f at count answer (omega (arith, sized)) ∙ tab-ext count _ _ (λ i l. ap (λ (j : ℕ). f (get_or answer j 0)) (same i)))

  keep-marks : map (sign_of digits) (take n answer) ≡ tab n (λ c. sign_of digits (keep_mark_in answer c))
  unfolding keep_mark_in
  keep-marks = section (sign_of digits) 0 n n (λ c. c) refl (omega arith) (λ c. omega arith)

  haplotype-1 : map (sign_of letters) (take (2 * n - n) (drop n answer)) ≡ tab n (λ c. sign_of letters (haplotype_in n answer 0 c))
  unfolding haplotype_in
  haplotype-1 = section (sign_of letters) n n (2 * n - n) (λ c. n + (0 * n + c)) (omega arith) (omega arith) (λ c. omega arith)

  haplotype-2 : map (sign_of letters) (take (3 * n - 2 * n) (drop (2 * n) answer)) ≡ tab n (λ c. sign_of letters (haplotype_in n answer 1 c))
  unfolding haplotype_in
  haplotype-2 = section (sign_of letters) (2 * n) n (3 * n - 2 * n) (λ c. n + (1 * n + c)) (omega arith) (omega arith) (λ c. omega arith)

  sides : map (sign_of digits) (take (3 * n + m - 3 * n) (drop (3 * n) answer)) ≡ tab m (λ i. sign_of digits (side_in n answer i))
  unfolding side_in
  sides = section (sign_of digits) (3 * n) m (3 * n + m - 3 * n) (λ i. n + (2 * n + i)) (omega arith) (omega arith) (λ i. omega arith)

  blocks : map block_word (take (length answer - (3 * n + m)) (drop (3 * n + m) answer)) ≡ tab m (λ i. block_word (block_in m n answer i))
  unfolding answer_size block_in
  blocks = section block_word (3 * n + m) m (length answer - (3 * n + m)) (λ i. n + (2 * n + (m + i))) (omega (arith, sized)) (omega arith) (λ i. omega arith)

  -- the count, the fields and the line feed, each after what stands before it
  pub line-is : (count : ℕ) (out : List ℕ) {after_count after_marks after_first after_second after_sides after_blocks new : List ℕ}
      → after_count ≡ out ++ decimal count
      → after_marks ≡ after_count ++ (ascii " " ++ field (map (sign_of digits) (take n answer)))
      → after_first ≡ after_marks ++ (ascii " " ++ field (map (sign_of letters) (take (2 * n - n) (drop n answer))))
      → after_second ≡ after_first ++ (ascii " " ++ field (map (sign_of letters) (take (3 * n - 2 * n) (drop (2 * n) answer))))
      → after_sides ≡ after_second ++ (ascii " " ++ field (map (sign_of digits) (take (3 * n + m - 3 * n) (drop (3 * n) answer))))
      → after_blocks ≡ after_sides ++ (ascii " " ++ field (joined "," (map block_word (take (length answer - (3 * n + m)) (drop (3 * n + m) answer)))))
      → new ≡ after_blocks ++ ascii "\n"
      → new ≡ out ++ line (fields m n count answer)
  unfolding line joined led fields ascii column_fields fragment_fields
  line-is count out c k h1 h2 s b e =
      let marked : (ℕ → ℕ) → ℕ → List ℕ = λ f size. ascii " " ++ field (tab size f) in
      rw (e, b, s, h2, h1, k, c, keep-marks, haplotype-1, haplotype-2, sides, blocks) (in-turn
      out
      (decimal count)
      (marked (λ i. sign_of digits (keep_mark_in answer i)) n)
      (marked (λ i. sign_of letters (haplotype_in n answer 0 i)) n)
      (marked (λ i. sign_of letters (haplotype_in n answer 1 i)) n)
      (marked (λ i. sign_of digits (side_in n answer i)) m)
      (ascii " " ++ field (joined "," (tab m (λ i. block_word (block_in m n answer i)))))
      (ascii "\n"))
