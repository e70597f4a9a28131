-- `host::haplotypes_conflict_counts` meets its contract.
-- Assumes nothing.
use mathlib.Core.Path.{sym, ap, subst, ◌∙◌}
use native.Mathlib.Omega.{arith}
use Rattle.conflicts.specs.Host.{host_number_of, HostFits}
use Rattle.haplotypes.proofs.HostLaws.{host-read, counts-fits}
use Rattle.haplotypes.proofs.host.haplotypes_conflict_counts.Goals as goal

pub host_number-requires : goal.host_number-requires
host_number-requires c =
    record { base_bound = omega arith; host_fits = subst (HostFits 4294967296) (sym c.conflict_counts.ensures.outcome) (counts-fits _ _ _) }

pub returns : goal.returns
returns c =
    let e = c.conflict_counts.ensures in
    let number = c.host_number.ensures ∙ ap (host_number_of 4294967296) e.outcome in
    record { number = number; read = host-read 4294967296 (counts-fits _ _ _) number; counts = e.counts }
