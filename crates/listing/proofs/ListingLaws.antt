-- Buffers that are all 0, the listing by the table's verdict, and the lines of S, F and C.
-- Assumes nothing.
use mathlib.Core.Path.{◌≡◌, refl, ap, ◌∙◌}
use mathlib.Core.List.Memᴰ
use mathlib.Core.List.{List, ◌++◌, ◌∷◌}
use Prim.Native.Nat.{ℕ, zero, suc, ◌*◌, ◌≤◌}
use native.Mathlib.Nat.{not-suc-le-zero}
use native.Mathlib.Omega.{arith}
use lib.ListN.{length, take, length-replicate}
use Rattle.below.specs.Below.{◌=?◌}
use Rattle.records.specs.Outcome.{Verdict, accepted}
use Rattle.fields.specs.Table.{fragments, column_count_of}
use Rattle.records.specs.Rules.{size_rules, table_rules, table_verdict}
use Rattle.below.proofs.BelowLaws.{isnt-<?}
use Rattle.records.proofs.RuleLaws.{unbroken, accepted-count}
use Rattle.conflicts.specs.Answer.{answer_size}
use Rattle.conflicts.specs.Services.{snp_removal_leaves, fragment_removal_leaves, corrections_leaves}
use Rattle.listing.specs.Listing.{service_line, blank, snp_removal_line, fragment_removal_line, correction_line, least_line, listed, listing}
use Rattle.listing.specs.Algorithm.Letters.{letter_of}
use Rattle.listing.specs.declared.service.Service.{Service}
use Rattle.listing.specs.declared.service.Service.TheVariants.{Snps, Fragments, Calls}

-- ---- buffers

pub length-blank : (size : ℕ) → length (blank size) ≡ size
unfolding blank
length-blank size = length-replicate size 0

pub take-blank : (k size : ℕ) → k ≤ size → take k (blank size) ≡ blank k
unfolding blank
take-blank zero size h = refl
take-blank (suc k) zero h = absurd (not-suc-le-zero h)
take-blank (suc k) (suc size) h = ap (λ (l : List ℕ). 0 ∷ l) (take-blank k size (omega arith))

-- the part of a buffer that is lent for an answer
pub blank-answer : (m n size : ℕ) {k : ℕ} → k ≡ answer_size m n → k ≤ size → take k (blank size) ≡ blank (answer_size m n)
blank-answer m n size e h = take-blank _ size h ∙ ap blank e

-- ---- the listing

module _ (n m : ℕ) (table : List ℕ) (e : table_verdict n table ≡ accepted m) where
  pub few-columns : n ≤ 128
  unfolding table_verdict size_rules
  few-columns = isnt-<? 128 n (unbroken (size_rules n table ++ table_rules n table) _ m e _ (Memᴰ.head refl))

  pub few-fragments : m ≤ 128
  unfolding table_verdict size_rules
  few-fragments =
      let h = isnt-<? 128 (fragments table) (unbroken (size_rules n table ++ table_rules n table) _ m e _ (Memᴰ.tail (Memᴰ.tail (Memᴰ.head refl)))) in
      let d = accepted-count _ (fragments table) m e in
      omega arith

pub listing-is : (n : ℕ) (table : List ℕ) (v : Verdict) → n ≡ column_count_of table → v ≡ table_verdict n table → listed n table v ≡ listing table
unfolding listing
listing-is n table v e d = ap (listed n table) d ∙ ap (λ (k : ℕ). listed k table (table_verdict k table)) e

-- ---- a service's line

-- what a service said and left on blank buffers prints as its line
module _ (m n : ℕ) (table : List ℕ) {service : Service} {answer work left : List ℕ} {v : Verdict} (a : answer ≡ blank (answer_size m n)) (w : work ≡ blank 32768) where
  pub snps-print : service ≡ Snps → v ≡ (snp_removal_leaves n table answer work).outcome → left ≡ (snp_removal_leaves n table answer work).answer → service_line (letter_of service) m n v left ≡ least_line (letter_of service) m n table
  unfolding least_line snp_removal_line ◌=?◌
  snps-print s e d = rw (e, d, s, a, w)

  pub fragments-print : service ≡ Fragments → v ≡ (fragment_removal_leaves n table answer work).outcome → left ≡ (fragment_removal_leaves n table answer work).answer → service_line (letter_of service) m n v left ≡ least_line (letter_of service) m n table
  unfolding least_line fragment_removal_line ◌=?◌
  fragments-print s e d = rw (e, d, s, a, w)

  pub calls-print : {output : List ℕ} → service ≡ Calls → output ≡ blank (32 * m) → v ≡ (corrections_leaves n table answer output work).outcome → left ≡ (corrections_leaves n table answer output work).answer → service_line (letter_of service) m n v left ≡ least_line (letter_of service) m n table
  unfolding least_line correction_line ◌=?◌
  calls-print s o e d = rw (e, d, s, a, o, w)
