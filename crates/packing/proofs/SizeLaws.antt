-- What the sizes of a call of pack say once rules 3, 1 and 2 are kept.
-- Assumes nothing.
use mathlib.Core.Path.{◌≡◌, refl, sym, ap, ◌∙◌}
use mathlib.Core.Bool.{true, false}
use mathlib.Core.List.Memᴰ
use mathlib.Core.List.{List}
use Prim.Native.Nat.{ℕ, ◌+◌, ◌*◌, ◌/◌, ◌%◌, ◌≤◌, ◌<◌}
use native.Mathlib.Nat.{mul-zero, div-add-mod', mul-mod_left, mul-div_cancel}
use native.Mathlib.Omega.{arith}
use lib.Dec.{T, eqb}
use lib.ListN.{length}
use Rattle.below.specs.Below.{◌=?◌, ◌or◌, isnt}
use Rattle.below.proofs.BelowLaws.{isnt-isnt, T-isnt-isnt, neither, isnt-or, isnt-<?, le-isnt, same_test, =?-eq, eq-=?}
use Rattle.below.proofs.SearchLaws.{=?-false, <?-false}
use Rattle.below.proofs.RowLaws.{row_within}
use Rattle.records.specs.Outcome.{Verdict, refused}
use Rattle.records.specs.Rules.{decide}
use Rattle.records.proofs.RuleLaws.{decide-none, unbroken}
use Rattle.records.proofs.KeptLaws.{rule-unbroken}
use Rattle.conflicts.specs.Services.{pack_size_rules}
use Rattle.packing.specs.Algorithm.Sizes.{PackSized}

module _ {n : ℕ} {cells tags grades : List ℕ} (sized : PackSized n cells tags grades) where
  -- 3
  pub pack-n : n ≤ 128
  unfolding pack_size_rules
  pack-n = isnt-<? 128 n (unbroken (pack_size_rules n cells tags grades) _ _ sized.kept _ (Memᴰ.head refl))

  -- 1, of the cells and of the grades
  lengths-kept : T (isnt (isnt (length cells =? length tags * n) or isnt (length grades =? length tags)))
  unfolding pack_size_rules
  lengths-kept = unbroken (pack_size_rules n cells tags grades) _ _ sized.kept _ (Memᴰ.tail (Memᴰ.head refl))

  pub pack-exact : length cells ≡ length tags * n
  pack-exact = =?-eq _ _ (isnt-isnt _ (neither _ _ lengths-kept).0)

  pub pack-graded : length grades ≡ length tags
  pack-graded = =?-eq _ _ (isnt-isnt _ (neither _ _ lengths-kept).1)

  -- 2
  pub pack-m : length tags ≤ 128
  unfolding pack_size_rules
  pack-m = isnt-<? 128 _ (unbroken (pack_size_rules n cells tags grades) _ _ sized.kept _ (Memᴰ.tail (Memᴰ.tail (Memᴰ.head refl))))

  -- the row of a fragment lies within the cells
  pub pack-row : (i : ℕ) → i < length tags → i * n + n ≤ length cells
  pack-row i h = let e = pack-exact in let r = row_within (length tags) n i h in omega arith

-- sizes that pack takes
pub pack-sized-of : {n : ℕ} {cells tags grades : List ℕ} → n ≤ 128 → length cells ≡ length tags * n → length grades ≡ length tags → length tags ≤ 128 → PackSized n cells tags grades
unfolding pack_size_rules
pack-sized-of wide exact graded few = record {
  kept = rule-unbroken _ _ _ (le-isnt _ _ wide) ∙ rule-unbroken _ _ _ (isnt-or _ _ (T-isnt-isnt _ (eq-=? _ _ exact)) (T-isnt-isnt _ (eq-=? _ _ graded))) ∙ rule-unbroken _ _ _ (le-isnt _ _ few) ∙ decide-none _;
}

-- 1, of grades that are not m
pub grades-refused : (n : ℕ) (cells tags grades : List ℕ) (v : Verdict) → n ≤ 128 → (length cells =? length tags * n) ≡ true → (length grades ≡ length tags → ⊥)
    → refused 1 0 ≡ decide (pack_size_rules n cells tags grades) v
unfolding pack_size_rules decide ◌or◌ isnt
grades-refused n cells tags grades v wide exact f = rw (<?-false 128 n wide, exact, =?-false (length grades) (length tags) f)

-- ---- a length that is a product, by a division

module _ (len m n : ℕ) where
  pub product-none : n ≡ 0 → eqb len 0 ≡ (len =? m * n)
  unfolding ◌=?◌
  product-none e = rw (e, mul-zero)

  pub product-ragged : (len % n ≡ 0 → ⊥) → false ≡ (len =? m * n)
  product-ragged f = sym (=?-false len (m * n) (λ e. f (ap (λ (k : ℕ). k % n) e ∙ mul-mod_left m n)))

  pub product-exact : (n ≡ 0 → ⊥) → len % n ≡ 0 → eqb (len / n) m ≡ (len =? m * n)
  unfolding ◌=?◌
  product-exact some e =
      same_test (len / n =? m) (len =? m * n)
      (λ t. let d = =?-eq (len / n) m t in eq-=? _ _ (sym (div-add-mod' len n) ∙ rw (e, d) (omega arith)))
      (λ t. eq-=? _ _ (ap (λ (k : ℕ). k / n) (=?-eq len (m * n) t) ∙ mul-div_cancel m (omega arith)))
