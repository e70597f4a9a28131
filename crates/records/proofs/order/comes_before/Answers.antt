use mathlib.Core.Path.{◌≡◌, refl, ◌∙◌}
use mathlib.Core.Bool.{Bool, true, false}
use Rattle.std.specs.Prelude.{cond, ◌&&◌, ◌||◌, Some}
use Rattle.std.specs.declared.cmp.Ordering.TheVariants.{Less, Equal, Greater}
use Rattle.std.specs.Ordering.{partial_ordering_then, is_some_and, is_lt}
use Rattle.below.specs.Below.{◌and◌, ◌or◌, ◌=?◌, ◌<?◌}
use Rattle.records.specs.Rules.{precedes}
use Rattle.records.proofs.order.comes_before.Goals as goal

-- two pairs compare by their first numbers, and where these are the same by their second ones
by-pairs : (a b c d : Bool) → is_some_and is_lt (partial_ordering_then (Some (cond a Less (cond b Equal Greater))) (Some (cond c Less (cond d Equal Greater)))) ≡ (a || b && c)
by-pairs true b c d = refl
by-pairs false true true d = refl
by-pairs false true false true = refl
by-pairs false true false false = refl
by-pairs false false c d = refl

pub returns : goal.returns
unfolding precedes ◌and◌ ◌or◌ ◌=?◌ ◌<?◌
returns c = c.lt.ensures ∙ by-pairs _ _ _ _
