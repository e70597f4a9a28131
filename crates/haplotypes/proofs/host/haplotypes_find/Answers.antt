-- `host::haplotypes_find` meets its contract.
-- Assumes nothing.
use Rattle.haplotypes.proofs.HostLaws.{start-found, start-absent}
use Rattle.haplotypes.proofs.host.haplotypes_find.Goals as goal

pub returns-then-i-table : goal.returns-then-i-table
returns-then-i-table c =
    start-found c.args.tag c.args.table.now c.position_of-i.ensures c.if-i-table.true

pub returns : goal.returns
returns c =
    start-absent c.args.tag c.args.table.now c.position_of-i.ensures c.if-i-table.false
