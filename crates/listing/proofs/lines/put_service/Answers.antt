use Rattle.listing.specs.Listing.{line, joined, led, refusal, fields, service_line}
use Rattle.records.specs.Outcome.{outcome_of}
use mathlib.Core.List.{append_assoc}
use mathlib.Core.Path.{ap}
use Rattle.listing.proofs.lines.put_service.Goals as goal

pub returns-in-Err-clause-appended : goal.returns-in-Err-clause-appended
unfolding line joined led refusal fields service_line
returns-in-Err-clause-appended c =
    rw (ap outcome_of c.in-Err.is, c.put_refusal.ensures.appended, c.push-2.ensures, c.push.ensures, c.letter.ensures) (simp append_assoc)

pub returns-in-Ok-clause-appended : goal.returns-in-Ok-clause-appended
unfolding line joined led refusal fields service_line
returns-in-Ok-clause-appended c =
    rw (ap outcome_of c.in-Ok.is, c.put_fields.ensures.appended, c.push-2.ensures, c.push.ensures, c.letter.ensures) (simp append_assoc)
