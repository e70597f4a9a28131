use Rattle.listing.proofs.LineLaws.{yes-line, no-line, refused-line}
use Rattle.records.specs.Outcome.{outcome_of}
use Rattle.below.specs.Text.{ascii}
use Rattle.listing.specs.Listing.{error_free_line}
use mathlib.Core.Path.{◌≡◌, sym, ap, ◌∙◌}
use Rattle.listing.proofs.lines.put_error_free.Goals as goal
use Rattle.listing.proofs.lines.put_error_free.Goals.{in_default-via-in-Ok+in_default, in_default-via-in_default}

pub returns-in-Ok-eq0-clause-appended : goal.returns-in-Ok-eq0-clause-appended
unfolding ascii
returns-in-Ok-eq0-clause-appended c =
    let w = c.in-Ok-eq0 in
    rw (yes-line (ap outcome_of w.is) (sym w.field-0-is ∙ w.field-0-test), c.push_bytes.ensures)

pub returns-in_default-clause-appended : goal.returns-in_default-clause-appended
unfolding ascii
returns-in_default-clause-appended c =
    let e : error_free_line (outcome_of c.args.outcome) ≡ ascii "error-free no\n" = elim c.in_default.branch [
      | in_default-via-in-Ok+in_default w ↦ no-line _ (ap outcome_of w.in_default.is) (λ z. w.in_default.field-0-test.1 (w.in_default.field-0-is ∙ z))
      | in_default-via-in_default w ↦ refused-line (ap outcome_of w.in_default.is)
    ] in
    rw (e, c.push_bytes-in_default.ensures)
