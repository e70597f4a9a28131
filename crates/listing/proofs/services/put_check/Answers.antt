use Rattle.listing.proofs.ListingLaws.{blank-answer}
use Rattle.listing.specs.Listing.{blank, check_line, error_free_line}
use Rattle.conflicts.specs.Services.{check_leaves}
use mathlib.Core.List.{List, ◌++◌}
use mathlib.Core.Path.{ap, ◌∙◌}
use Prim.Native.Nat.{ℕ}
use Rattle.listing.proofs.services.put_check.Goals as goal

pub returns-clause-appended : goal.returns-clause-appended
unfolding blank check_line
returns-clause-appended c =
    let a = c.args in
    let e = blank-answer a.sizes.m a.sizes.n 640 c.answer_len.ensures.size c.answer_len.ensures.within in
    c.put_error_free.ensures.appended
    ∙ ap (λ (l : List ℕ). a.out.now ++ l) (ap error_free_line (c.check-outcome.ensures.outcome ∙ ap (λ (l : List ℕ). (check_leaves a.sizes.n a.table.now l).outcome) e))
