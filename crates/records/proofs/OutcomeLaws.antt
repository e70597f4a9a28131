-- The paper's values of a call's result tell the result.
-- Assumes nothing.
use mathlib.Core.Path.{◌≡◌, refl, sym, ap, ◌∙◌}
use Rattle.std.specs.Prelude.{ℕ, [], ◌∷◌, get_or, Result, Ok, Err, IsErr, IsErrAnd}
use Rattle.std.proofs.lemmas.Result.{err_from_is_err_and}
use Rattle.records.specs.declared.refusal.Fault.{Fault}
use Rattle.records.specs.declared.refusal.Fault.TheVariants.{RaggedFile, TooManyFragments, TooManySnps, OutOfFrame, StrayBits, UnknownCall, OpenEnd, Gapped, TagTwice, ShortWork, WrongBuffer, TooDeep, OutOfOrder, NoCall}
use Rattle.records.specs.declared.refusal.Refusal.{Refusal}
use Rattle.records.specs.Outcome.{Verdict, accepted, refused, number_of, outcome_of, tested_of}

-- the rule of a number
fault_of : ℕ → Fault
fault_of k =
    get_or
    (NoCall ∷ RaggedFile ∷ TooManyFragments ∷ TooManySnps ∷ OutOfFrame ∷ StrayBits ∷ UnknownCall ∷ OpenEnd ∷ Gapped ∷ TagTwice ∷ ShortWork ∷ WrongBuffer ∷ TooDeep ∷ OutOfOrder ∷ [])
    k NoCall

told : (f : Fault) → fault_of (number_of f) ≡ f
unfolding fault_of
told RaggedFile = refl
told TooManyFragments = refl
told TooManySnps = refl
told OutOfFrame = refl
told StrayBits = refl
told UnknownCall = refl
told OpenEnd = refl
told Gapped = refl
told TagTwice = refl
told ShortWork = refl
told WrongBuffer = refl
told TooDeep = refl
told OutOfOrder = refl
told NoCall = refl

-- the result with given values
result_of : Verdict → Result ℕ Refusal
result_of (accepted count) = Ok count
result_of (refused number place) = Err (record { fault = fault_of number; place = place })

back : (a : Result ℕ Refusal) → result_of (outcome_of a) ≡ a
unfolding result_of
back (Ok count) = refl
back (Err r) = ap (λ (f : Fault). Err (record { fault = f; place = r.place })) (told r.fault)

pub outcome_of-injective : (a b : Result ℕ Refusal) → outcome_of a ≡ outcome_of b → a ≡ b
outcome_of-injective a b e = sym (back a) ∙ ap result_of e ∙ back b

-- a refusal that `?` hands on
pub passed_on : (r : Result ℕ Refusal) (e : Refusal) → IsErr r × IsErrAnd r (λ x. x ≡ e) → outcome_of r ≡ refused (number_of e.fault) e.place
passed_on r e w = let p = err_from_is_err_and r w.1 in rw (p.1, p.2) refl

pub passed_test : (r : Result Unit Refusal) (e : Refusal) → IsErr r × IsErrAnd r (λ x. x ≡ e) → tested_of r ≡ refused (number_of e.fault) e.place
passed_test r e w = let p = err_from_is_err_and r w.1 in rw (p.1, p.2) refl
