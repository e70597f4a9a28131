use Rattle.below.specs.Below.{isnt}
use Rattle.fields.specs.Table.{fragments}
use Rattle.records.specs.Rules.{size_rules, decide}
use Rattle.below.proofs.SearchLaws.{<?-true, <?-false, =?-true, =?-false}
use Rattle.records.proofs.rules.size_fault.Goals as goal

pub returns-then-n-gt128 : goal.returns-then-n-gt128
unfolding size_rules decide
returns-then-n-gt128 c = rw (c.at.ensures, <?-true 128 _ c.if-n-gt128.true)

pub returns-then-len-ne0 : goal.returns-then-len-ne0
unfolding size_rules decide isnt
returns-then-len-ne0 c = rw (c.at-then-len-ne0.ensures, <?-false 128 _ c.if-n-gt128.false, =?-false _ _ c.if-len-ne0.true)

pub returns-then-m-gt128 : goal.returns-then-m-gt128
unfolding size_rules decide isnt fragments
returns-then-m-gt128 c = rw (c.at-then-m-gt128.ensures, <?-false 128 _ c.if-n-gt128.false, =?-true _ _ c.if-len-ne0.false, <?-true 128 _ c.if-m-gt128.true)

pub returns : goal.returns
unfolding size_rules decide isnt fragments
returns c = rw (<?-false 128 _ c.if-n-gt128.false, =?-true _ _ c.if-len-ne0.false, <?-false 128 _ c.if-m-gt128.false)
