-- `masks::fragment_line` meets its contract.
-- Assumes nothing.
use mathlib.Core.Path.{◌≡◌, ap, ◌∙◌}
use Rattle.fields.specs.Record.{start_of}
use Rattle.fields.specs.Table.{record_bytes_at}
use Rattle.fields.specs.Algorithm.Letters.{letters_in}
use Rattle.fields.proofs.PartLaws.{part-record}
use Rattle.masks.proofs.RecordLaws.{record-line}
use Rattle.masks.proofs.masks.fragment_line.Goals as goal
use Rattle.masks.proofs.masks.fragment_line.Goals.{After-record_at-part}

-- the part is record i
part-read : (c : After-record_at-part) → c.record_at-part.result.now ≡ record_bytes_at c.args.table.now c.args.i
part-read c = part-record _ c.args.i _ c.record_at-part.ensures c.requires

pub returns : goal.returns
returns c =
    let part = part-read (goal.at.returns c).After-record_at-part in
    λ n lettered.
    record-line lettered c.requires (c.letters_of-letters.ensures ∙ ap letters_in part) (c.from-s.ensures ∙ c.start.ensures ∙ ap start_of part) c.raised.ensures c.raised-2.ensures
