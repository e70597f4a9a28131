-- `table::put` meets its contract.
-- Assumes nothing.
use mathlib.Core.Path.{refl}
use Rattle.ranks.proofs.TableLaws.{put-set}
use Rattle.ranks.proofs.table.put.Goals as goal

pub returns : goal.returns
returns c =
    let a = c.args in
    (record { counts_are = refl; highs_are = refl; lows_are = refl }, put-set a.counts.now a.highs.now a.lows.now a.j a.r c.requires.0)
