-- `packing::is_product` meets its contract.
-- Assumes nothing.
use mathlib.Core.Path.{◌∙◌}
use Rattle.below.specs.Below.{◌=?◌}
use Rattle.below.proofs.SearchLaws.{=?-false}
use Rattle.packing.proofs.SizeLaws.{product-none, product-ragged, product-exact}
use Rattle.packing.proofs.packing.is_product.Goals as goal

pub returns-then-n-eq0 : goal.returns-then-n-eq0
returns-then-n-eq0 c = product-none _ c.args.m _ c.if-n-eq0.true

pub returns-else-len-n-eq0 : goal.returns-else-len-n-eq0
unfolding ◌=?◌
returns-else-len-n-eq0 c = =?-false _ _ c.if-len-n-eq0.false ∙ product-ragged _ c.args.m _ c.if-len-n-eq0.false

pub returns-then-len-n-eq0 : goal.returns-then-len-n-eq0
returns-then-len-n-eq0 c = product-exact _ _ _ c.if-n-eq0.false c.if-len-n-eq0.true
