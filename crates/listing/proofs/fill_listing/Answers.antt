use Rattle.listing.proofs.ListingLaws.{few-columns, few-fragments, listing-is}
use Rattle.listing.specs.Listing.{listed}
use Rattle.records.specs.Outcome.{outcome_of}
use mathlib.Core.Path.{sym, ap, ◌∙◌}
use Rattle.listing.proofs.fill_listing.Goals as goal

pub invariant_of-put_lines : goal.invariant_of-put_lines
invariant_of-put_lines c =
    let e = sym c.table_fault.ensures ∙ ap outcome_of c.in-Ok.is in
    record { few_fragments = few-fragments _ _ _ e; few_columns = few-columns _ _ _ e }

pub returns-in-Err : goal.returns-in-Err
unfolding listed
returns-in-Err c =
    let e = sym (ap outcome_of c.in-Err.is) ∙ c.table_fault.ensures in
    rw (c.put_refusal.ensures.appended, c.requires) (listing-is _ _ _ c.column_count-n.ensures e)

pub returns-in-Ok : goal.returns-in-Ok
returns-in-Ok c =
    let e = sym (ap outcome_of c.in-Ok.is) ∙ c.table_fault.ensures in
    c.put_lines.ensures ∙ listing-is _ _ _ c.column_count-n.ensures e
