-- `packing::pack_size_fault` meets its contract.
-- Assumes nothing.
use mathlib.Core.Path.{sym, ◌∙◌}
use Rattle.records.specs.Rules.{decide}
use Rattle.below.specs.Below.{◌or◌, isnt}
use Rattle.below.proofs.SearchLaws.{=?-true, <?-true, <?-false}
use Rattle.conflicts.specs.Services.{pack_size_rules}
use Rattle.packing.proofs.SizeLaws.{grades-refused}
use Rattle.packing.proofs.packing.pack_size_fault.Goals as goal
use Rattle.packing.proofs.packing.pack_size_fault.Goals.{then-not-is_product-via-then-not-is_product, then-not-is_product-via-else-not-is_product+then-grades-m}

pub returns-then-n-gt128 : goal.returns-then-n-gt128
unfolding pack_size_rules decide ◌or◌ isnt
returns-then-n-gt128 c = rw (c.at.ensures, <?-true 128 _ c.if-n-gt128.true)

pub returns-then-not-is_product : goal.returns-then-not-is_product
unfolding pack_size_rules decide ◌or◌ isnt
returns-then-not-is_product c =
    rw c.at-then-not-is_product.ensures
    (elim c.then-not-is_product.branch [
      | then-not-is_product-via-then-not-is_product w ↦ rw (<?-false 128 _ c.if-n-gt128.false, sym c.is_product.ensures ∙ w.if-not-is_product.true)
      | then-not-is_product-via-else-not-is_product+then-grades-m w ↦ grades-refused _ _ _ _ _ c.if-n-gt128.false (sym c.is_product.ensures ∙ w.if-not-is_product.false) w.if-grades-m.true
    ])

pub returns-then-m-gt128 : goal.returns-then-m-gt128
unfolding pack_size_rules decide ◌or◌ isnt
returns-then-m-gt128 c =
    rw (c.at-then-m-gt128.ensures, <?-false 128 _ c.if-n-gt128.false, sym c.is_product.ensures ∙ c.if-not-is_product.false, =?-true _ _ c.if-grades-m.false, <?-true 128 _ c.if-m-gt128.true)

pub returns : goal.returns
unfolding pack_size_rules decide ◌or◌ isnt
returns c =
    rw (<?-false 128 _ c.if-n-gt128.false, sym c.is_product.ensures ∙ c.if-not-is_product.false, =?-true _ _ c.if-grades-m.false, <?-false 128 _ c.if-m-gt128.false)
