-- `host::haplotypes_check` meets its contract.
-- Assumes nothing.
use mathlib.Core.Path.{sym, ap, subst, ◌∙◌}
use native.Mathlib.Omega.{arith}
use Rattle.conflicts.specs.Host.{host_number_of, HostFits}
use Rattle.haplotypes.proofs.HostLaws.{host-read, check-fits}
use Rattle.haplotypes.proofs.host.haplotypes_check.Goals as goal

pub host_number-requires : goal.host_number-requires
host_number-requires c =
    record { base_bound = omega arith; host_fits = subst (HostFits 1000) (sym c.check.ensures.outcome) (check-fits _ _ _) }

pub returns : goal.returns
returns c =
    let e = c.check.ensures in
    let number = c.host_number.ensures ∙ ap (host_number_of 1000) e.outcome in
    record { number = number; read = host-read 1000 (check-fits _ _ _) number; answer = e.answer }
