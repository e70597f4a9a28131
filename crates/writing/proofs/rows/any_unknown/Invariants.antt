-- `rows::any_unknown` meets its contract. The loop's invariant: whether a code without a meaning stands before column c.
-- Assumes nothing.
use mathlib.Core.Path.{◌≡◌}
use Rattle.below.specs.Below.{any_below}
use Rattle.fields.specs.Writing.{codes_of}
use Rattle.writing.proofs.ScanLaws.{unknown}
use Rattle.writing.proofs.rows.any_unknown.Given as goal

abbrev pub invariant-loop-code : goal.invariant-loop-code
invariant-loop-code l = l.found ≡ any_below l.code-index (unknown (codes_of l.row))
