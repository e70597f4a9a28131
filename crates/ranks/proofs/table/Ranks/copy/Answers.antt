-- `Ranks::copy` meets its contract.
-- Assumes nothing.
use mathlib.Core.Path.{refl}
use lib.ListN.{get_or}
use Rattle.ranks.specs.declared.rank.Rank.{Rank}
use Rattle.ranks.proofs.TableLaws.{inside_of, weight-at, weights-put, put_as}
use Rattle.ranks.proofs.table.Ranks.copy.Goals as goal

pub returns-clause-weights : goal.returns-clause-weights
returns-clause-weights g c =
    let t = c.args.self.now in
    let from = c.args.from in
    let r : Rank = record { count = get_or t.counts.now from 0; high = get_or t.highs.now from 0; low = get_or t.lows.now from 0 } in
    put_as (weights-put _ _ _ r refl (inside_of t.parallel c.requires.1)) (weight-at _ _ _ refl (inside_of t.parallel c.requires.0).in_counts)
