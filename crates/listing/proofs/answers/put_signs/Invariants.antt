use Rattle.std.proofs.Common.{◌≡◌, ◌++◌, take}
use mathlib.Core.List.{map}
use Rattle.listing.specs.Listing.{sign_of}
use Rattle.listing.proofs.answers.put_signs.Given as goal

abbrev pub invariant-loop-code : goal.invariant-loop-code
invariant-loop-code l = l.out ≡ l.initial.out ++ map (sign_of l.signs) (take l.code-index l.codes)
