-- `fragment_keep_marks` meets its contract.
-- Assumes nothing.
use Rattle.fragment_removal.proofs.fragment_keep_marks.Goals as goal

pub invariant_of-fragments : goal.invariant_of-fragments
invariant_of-fragments c =
    let r = c.requires in
    record {
      prepared = record {
        few = r.0;
        masks = r.2;
        gapless = r.3;
        rising = r.4;
        reaching = c.fill_reaches.ensures;
      };
    }
