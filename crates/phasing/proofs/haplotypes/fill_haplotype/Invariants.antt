-- `haplotypes::fill_haplotype` meets its contract. The invariant: the columns passed have their codes.
-- Assumes nothing.
use lib.ListN.{length}
use Rattle.below.proofs.FillLaws.{Filled}
use Rattle.phasing.specs.Algorithm.Haplotypes.{line_code}
use Rattle.phasing.proofs.haplotypes.fill_haplotype.Given as goal

abbrev pub invariant-loop-c : goal.invariant-loop-c
invariant-loop-c l = Filled (length l.cols) (line_code l.line l.cols) l.c l.row
