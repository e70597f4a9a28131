-- `Ranks::get` meets its contract.
-- Assumes nothing.
use mathlib.Core.Path.{refl}
use Rattle.ranks.proofs.TableLaws.{inside_of, weight-at}
use Rattle.ranks.proofs.table.Ranks.get.Goals as goal

pub returns : goal.returns
returns g c = rw c.get.ensures (weight-at _ _ _ refl (inside_of c.args.self.now.parallel c.requires).in_counts)
