-- `Ranks::put` meets its contract.
-- Assumes nothing.
use mathlib.Core.Path.{refl}
use Rattle.ranks.proofs.TableLaws.{inside_of, weights-put}
use Rattle.ranks.proofs.table.Ranks.put.Goals as goal

pub returns-clause-weights : goal.returns-clause-weights
returns-clause-weights g c = let s = c.put.ensures.0 in rw (s.counts_are, s.highs_are, s.lows_are) (weights-put _ _ _ c.args.r refl (inside_of c.args.self.now.parallel c.requires.0))
