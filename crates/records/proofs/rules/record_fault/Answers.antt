use mathlib.Core.Path.{◌≡◌, sym, ◌∙◌}
use Rattle.fields.specs.Table.{record_bytes_at}
use Rattle.records.specs.Outcome.{accepted}
use Rattle.fields.proofs.PartLaws.{part-record}
use Rattle.records.proofs.OutcomeLaws.{passed_test}
use Rattle.records.proofs.RuleLaws.{decide-accepted, decide-refused}
use Rattle.records.proofs.FaultLaws.{switched}
use borrow.Author.Rules.{rules}
use Rattle.records.proofs.rules.record_fault.Goals as goal
use Rattle.records.proofs.rules.record_fault.Goals.{After-record_at-part}

-- the part is record i
part-read : (c : After-record_at-part) → c.record_at-part.result.now ≡ record_bytes_at c.args.table.now c.args.i
part-read c = part-record _ c.args.i _ c.record_at-part.ensures c.requires

pub earlier_fault-requires : goal.earlier_fault-requires
earlier_fault-requires c = (search rules, part-read (goal.at.earlier_fault-requires c).After-record_at-part)

pub returns-in_err-span_fault : goal.returns-in_err-span_fault
returns-in_err-span_fault c =
    let a = c.args in
    passed_test _ _ c.from_residual.ensures
    ∙ sym (switched a.gapless a.n a.table.now a.i (accepted 0) ∙ decide-refused _ _ _ _ _ (rw (part-read (goal.at.returns-in_err-span_fault c).After-record_at-part) at (sym c.in_err-span_fault.ensures)))

pub returns : goal.returns
returns c =
    let a = c.args in
    c.earlier_fault.ensures
    ∙ sym (switched a.gapless a.n a.table.now a.i (accepted 0) ∙ decide-accepted _ _ _ _ (rw (part-read (goal.at.returns c).After-record_at-part) at (sym c.in_ok-span_fault.ensures)))
