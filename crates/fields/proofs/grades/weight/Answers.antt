use mathlib.Core.Path.{◌≡◌, ap, ◌∙◌}
use borrow.Author.Rules.{rules}
use native.Mathlib.Omega.{arith}
use lib.ListN.{get_or}
use Rattle.fields.specs.Grades.{weights, weight_of}
use Rattle.fields.proofs.GradeLaws.{weight-range}
use Rattle.fields.proofs.grades.weight.Goals as goal

pub returns : goal.returns
unfolding weights weight_of
returns c =
    let is : c.unwrap_or.result ≡ get_or weights c.from.result 1 = search rules in
    let e : c.unwrap_or.result ≡ weight_of c.args.grade = is ∙ ap weight_of c.from.ensures in
    let range = weight-range c.args.grade in
    (e, omega arith, omega arith)
