-- `packing::Fragments::start_of` meets its contract.
-- Assumes nothing.
use mathlib.Core.Path.{refl, ◌∙◌}
use native.Mathlib.Omega.{arith}
use Rattle.below.proofs.RowLaws.{product-fits}
use Rattle.packing.proofs.SizeLaws.{pack-n, pack-m, pack-row}
use Rattle.packing.proofs.FragmentLaws.{row-start}
use Rattle.packing.proofs.packing.Fragments.start_of.Goals as goal

pub overflow_mul-from : goal.overflow_mul-from
overflow_mul-from c = record { fits = product-fits (pack-n c.args.self.sized) (let few = pack-m c.args.self.sized in let h = c.requires in omega arith) }

pub returns : goal.returns
returns c = c.calls_start.ensures ∙ row-start _ _ _ refl (pack-row c.args.self.sized c.args.i c.requires)

pub overflow_add-from : goal.overflow_add-from
overflow_add-from c = let r = (pack-row c.args.self.sized c.args.i c.requires) in omega arith

pub slice_bounds-calls_start-end : goal.slice_bounds-calls_start-end
slice_bounds-calls_start-end c = (pack-row c.args.self.sized c.args.i c.requires)
