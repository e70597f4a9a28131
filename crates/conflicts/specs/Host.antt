-- The one number that a call from C returns for an outcome, and how it is read (paper 01, "Refused tables": 1,000 × number + place).
-- Assumes nothing.
use Rattle.std.specs.Prelude.{ℕ, ◌+◌, ◌*◌, ◌/◌, ◌%◌, ◌≤◌, ◌<◌, if◌then◌else◌}
use Rattle.below.specs.Below.{◌<?◌}
use Rattle.records.specs.Outcome.{Verdict, accepted, refused}

-- a count as it is, a refusal as base × number + place
abbrev pub host_number_of : ℕ → Verdict → ℕ
host_number_of base (accepted count) = count
host_number_of base (refused number place) = base * number + place

-- check's: "0 for yes, 1 for no, 1,000 × number + place for a refusal"
abbrev pub host_code : Verdict → ℕ
host_code v = host_number_of 1000 v

-- the other services': the base is 2 ^ 32
abbrev pub host_outcome : Verdict → ℕ
host_outcome v = host_number_of 4294967296 v

-- the outcome, from the number
unfoldable pub host_read : ℕ → ℕ → Verdict
host_read base r = if r <? base then accepted r else refused (r / base) (r % base)

-- an outcome that can be read from its number: a count and a place below the base, a refusal's number from 1 on
abbrev pub HostFits : ℕ → Verdict → Type 0
HostFits base (accepted count) = count < base
HostFits base (refused number place) = (1 ≤ number) × (place < base)
