-- The lines of a listing are tied to the table's verdict: no service refuses a table that is accepted, but S and F by 8, and C by 12.
-- Assumes nothing.
use mathlib.Core.Path.{◌≡◌, refl, sym, ap, ◌∙◌}
use mathlib.Core.Logic.{◌↔◌, ◌⊎◌, inl, inr}
use mathlib.Core.List.{List}
use Prim.Native.Nat.{ℕ, zero, suc, ◌*◌, ◌≤◌, ◌<◌}
use Prim.Native.Char.{Char, code}
use native.Mathlib.Nat.{le_of_eq}
use native.Mathlib.Omega.{arith}
use lib.ListN.{length, get_or}
use Rattle.records.specs.Outcome.{Verdict, accepted}
use Rattle.fields.specs.Table.{column_count_of}
use Rattle.records.specs.Rules.{table_verdict}
use Rattle.conflicts.specs.Grid.{grid_of}
use Rattle.conflicts.specs.Answer.{answer_size}
use Rattle.conflicts.specs.Minimality.{AgreeingClasses, SnpRemoval, FragmentRemoval, Corrected}
use Rattle.conflicts.specs.Served.{Accepts, Refuses, FirstGapped, TooDeep}
use Rattle.conflicts.proofs.GridLaws.{classes-agree}
use Rattle.conflicts.proofs.Outcomes.{check-yes, snp-accepted, fragment-accepted}
use Rattle.conflicts.proofs.CorrectionsMinimality.{corrections-accepted}
use Rattle.conflicts.proofs.AcceptedServices.{served}
use Rattle.below.specs.Text.{ascii}
use Rattle.listing.specs.Listing.{error_free_line, service_line, blank, check_line, snp_removal_line, fragment_removal_line, correction_line, listed, listing}
use Rattle.listing.specs.Lines.{ServicesSay, FieldsLine, RefusalLine, LinesSay, ListingSays}
use Rattle.listing.proofs.ListingLaws.{length-blank}

-- the two second lines differ, in the twelfth byte
yes-no : ascii "error-free yes\n" ≡ ascii "error-free no\n" → ⊥
unfolding ascii
yes-no e = let d = ap (λ (l : List ℕ). get_or l 11 0) e in omega arith

-- a second line that prints a count which is 0 exactly if something holds
module _ {Holds : Type 0} (text : List ℕ) where
  line-says : (count : ℕ) → text ≡ error_free_line (accepted count) → (count ≡ 0) ↔ Holds
      → ((text ≡ ascii "error-free yes\n") ↔ Holds) × ((text ≡ ascii "error-free no\n") ↔ (Holds → ⊥))
  unfolding error_free_line
  line-says zero e w = ((λ d. w.0 refl, λ h. e), (λ d. absurd (yes-no (sym e ∙ d)), λ f. absurd (f (w.0 refl))))
  line-says (suc k) e w = ((λ d. absurd (yes-no (sym d ∙ e)), λ h. absurd (let z = w.1 h in omega arith)), (λ d h. let z = w.1 h in omega arith, λ f. e))

-- a service that accepts prints its fields, and one that refuses its refusal
service-says : (letter : Char) (m n number : ℕ) (Means : List ℕ → ℕ → Type 0) (At : ℕ → Type 0) (verdict : Verdict) (left : List ℕ) → ((count : ℕ) → verdict ≡ accepted count → Means left count)
    → Accepts verdict ⊎ Refuses number At verdict → FieldsLine letter m n Means (service_line (code letter) m n verdict left) ⊎ RefusalLine letter number At (service_line (code letter) m n verdict left)
unfolding service_line
service-says letter m n number Means At verdict left means (inl s) =
    inl (record { count = s.count; answer = left; means = means s.count s.is; prints = ap (λ (v : Verdict). service_line (code letter) m n v left) s.is })
service-says letter m n number Means At verdict left means (inr s) =
    inr (record { place = s.place; at = s.at; prints = ap (λ (v : Verdict). service_line (code letter) m n v left) s.is })

module _ (n m : ℕ) (table : List ℕ) (e : table_verdict n table ≡ accepted m) where
  abbrev answer : List ℕ
  answer = blank (answer_size m n)

  abbrev work : List ℕ
  work = blank 32768

  abbrev output : List ℕ
  output = blank (32 * m)

  pub services-say : ServicesSay n m table
  services-say =
      let s = served n m table e in
      let exact = length-blank (answer_size m n) in
      let enough : 32768 ≤ length (blank 32768) = le_of_eq (sym (length-blank 32768)) in
      record {
        check = s.check answer exact;
        snps = s.snps answer work exact enough;
        fragments = s.fragments answer work exact enough;
        corrections = s.corrections answer output work exact (length-blank (32 * m)) enough;
      }

  check-says : ((check_line m n table ≡ ascii "error-free yes\n") ↔ AgreeingClasses (grid_of n table)) × ((check_line m n table ≡ ascii "error-free no\n") ↔ (AgreeingClasses (grid_of n table) → ⊥))
  unfolding check_line
  check-says =
      let s = services-say.check in
      let w = check-yes n table answer s.count s.is in
      let a = classes-agree (grid_of n table) in
      line-says _ s.count (ap error_free_line s.is) (λ z. a.0 (w.0 z), λ h. w.1 (a.1 h))

  snps-say : FieldsLine "S" m n (SnpRemoval (grid_of n table)) (snp_removal_line m n table) ⊎ RefusalLine "S" 8 (FirstGapped table) (snp_removal_line m n table)
  unfolding snp_removal_line
  snps-say = service-says "S" m n 8 (SnpRemoval (grid_of n table)) (FirstGapped table) _ _ (λ count is. (snp-accepted n table answer work count is).0) services-say.snps

  fragments-say : FieldsLine "F" m n (FragmentRemoval (grid_of n table)) (fragment_removal_line m n table) ⊎ RefusalLine "F" 8 (FirstGapped table) (fragment_removal_line m n table)
  unfolding fragment_removal_line
  fragments-say = service-says "F" m n 8 (FragmentRemoval (grid_of n table)) (FirstGapped table) _ _ (λ count is. (fragment-accepted n table answer work count is).0) services-say.fragments

  abbrev Corrects : List ℕ → ℕ → Type 0
  Corrects left count = (fixed : List ℕ) × Corrected n table left fixed count

  corrections-say : ((j : ℕ) → j < length table → get_or table j 0 < 256) → FieldsLine "C" m n Corrects (correction_line m n table) ⊎ RefusalLine "C" 12 (TooDeep (grid_of n table)) (correction_line m n table)
  unfolding correction_line
  corrections-say bytes =
      service-says "C" m n 12 Corrects (TooDeep (grid_of n table)) _ _ (λ count is. (_, (corrections-accepted n table answer output work count is bytes).0)) services-say.corrections

  -- the lines of a table that is accepted
  pub lines : LinesSay n m table
  lines = record { yes = check-says.0; no = check-says.1; snps = snps-say; fragments = fragments-say; corrections = corrections-say }

-- the listing of every table
pub listing-says : (table : List ℕ) → ListingSays table
unfolding listing listed
listing-says table =
    let n = column_count_of table in
    record {
      accepts = λ m e. ap (listed n table) e;
      lines = λ m e. lines n m table e;
      refuses = λ number place e. ap (listed n table) e;
    }
