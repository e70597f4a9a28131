-- `host::haplotypes_unpack` meets its contract.
-- Assumes nothing.
use mathlib.Core.Path.{sym, ap, subst, ◌∙◌}
use native.Mathlib.Omega.{arith}
use Rattle.conflicts.specs.Host.{host_number_of, HostFits}
use Rattle.haplotypes.proofs.HostLaws.{host-read, unpack-fits}
use Rattle.haplotypes.proofs.host.haplotypes_unpack.Goals as goal

pub host_number-requires : goal.host_number-requires
host_number-requires c =
    let unpack = c.unpack in
    record { base_bound = omega arith; host_fits = subst (HostFits 4294967296) (sym unpack.ensures.outcome) (unpack-fits _ _ _ _ _) }

pub returns : goal.returns
returns c =
    let e = c.unpack.ensures in
    let number = c.host_number.ensures ∙ ap (host_number_of 4294967296) e.outcome in
    record { number = number; read = host-read 4294967296 (unpack-fits _ _ _ _ _) number; cells = e.cells; tags = e.tags; grades = e.grades }
