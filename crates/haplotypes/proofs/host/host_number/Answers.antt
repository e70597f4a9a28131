-- `host::host_number` meets its contract.
-- Assumes nothing.
use mathlib.Core.Path.{sym, ap, ◌∙◌}
use native.Mathlib.Omega.{arith}
use borrow.Author.Rules.{rules}
use Rattle.std.specs.Prelude.{ℕ, Result}
use Rattle.records.specs.declared.refusal.Refusal.{Refusal}
use Rattle.records.specs.Outcome.{outcome_of}
use Rattle.conflicts.specs.Host.{host_number_of}
use Rattle.haplotypes.proofs.HostLaws.{refused-room}
use Rattle.haplotypes.proofs.host.host_number.Goals as goal

pub overflow_mul-result : goal.overflow_mul-result
overflow_mul-result c =
    let h = refused-room c.requires.base_bound c.requires.host_fits c.in-Err.is (c.from.ensures ∙ c.number.ensures) (omega arith) in
    search (rules, h)

pub overflow_add-result : goal.overflow_add-result
overflow_add-result c =
    let h = refused-room c.requires.base_bound c.requires.host_fits c.in-Err.is (c.from.ensures ∙ c.number.ensures) (omega arith) in
    search (rules, h)

pub returns-in-Ok : goal.returns-in-Ok
returns-in-Ok c = sym (ap (λ (o : Result ℕ Refusal). host_number_of c.args.base (outcome_of o)) c.in-Ok.is)

pub returns-in-Err : goal.returns-in-Err
returns-in-Err c = rw (c.in-Err.is, c.from.ensures, c.number.ensures)
