-- The letters of the services that print an answer.
-- Assumes nothing.
use Rattle.std.specs.Prelude.{ℕ}
use Prim.Native.Char.{code}
use Rattle.listing.specs.declared.service.Service.{Service}
use Rattle.listing.specs.declared.service.Service.TheVariants.{Snps, Fragments, Calls}

-- the letter of a service's line
abbrev pub letter_of : Service → ℕ
letter_of Snps = code "S"
letter_of Fragments = code "F"
letter_of Calls = code "C"
