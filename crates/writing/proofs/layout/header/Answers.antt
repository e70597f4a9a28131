-- `layout::header` meets its contract.
-- Assumes nothing.
use mathlib.Core.Path.{refl, ◌∙◌}
use Rattle.fields.specs.Writing.{bytes_of}
use Rattle.writing.proofs.LayoutLaws.{four-bytes, two-bytes}
use Rattle.writing.proofs.layout.header.Goals as goal

pub returns : goal.returns
unfolding bytes_of
returns c =
    let a = c.args in
    rw (c.to_le_bytes.ensures ∙ four-bytes a.tag, c.to_le_bytes-2.ensures ∙ two-bytes a.start) refl
