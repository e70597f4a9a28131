-- What a call returns, in the paper's numbers (paper 01, "The answer's bytes").
-- Assumes nothing.
use Rattle.std.specs.Prelude.{ℕ, Result, Ok, Err}
use Rattle.records.specs.declared.refusal.Fault.{Fault}
use Rattle.records.specs.declared.refusal.Fault.TheVariants.{RaggedFile, TooManyFragments, TooManySnps, OutOfFrame, StrayBits, UnknownCall, OpenEnd, Gapped, TagTwice, ShortWork, WrongBuffer, TooDeep, OutOfOrder, NoCall}
use Rattle.records.specs.declared.refusal.Refusal.{Refusal}

-- "an acceptance with its count, or a refusal with its number and place"
pub data Verdict : Type 0 where
  accepted : ℕ → Verdict
  refused : ℕ → ℕ → Verdict

-- the paper's number of each rule
abbrev pub number_of : Fault → ℕ
number_of RaggedFile = 1
number_of TooManyFragments = 2
number_of TooManySnps = 3
number_of OutOfFrame = 4
number_of StrayBits = 5
number_of UnknownCall = 6
number_of OpenEnd = 7
number_of Gapped = 8
number_of TagTwice = 9
number_of ShortWork = 10
number_of WrongBuffer = 11
number_of TooDeep = 12
number_of OutOfOrder = 13
number_of NoCall = 17

-- the paper's number and values for each result of a call
abbrev pub outcome_of : Result ℕ Refusal → Verdict
outcome_of (Ok count) = accepted count
outcome_of (Err r) = refused (number_of r.fault) r.place

-- … and of a test, which accepts without a count
abbrev pub tested_of : Result Unit Refusal → Verdict
tested_of (Ok done) = accepted 0
tested_of (Err r) = refused (number_of r.fault) r.place
