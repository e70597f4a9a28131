use Rattle.std.proofs.Common.{◌≡◌, ◌+◌, ◌*◌, ◌≤◌, ◌++◌, length, take}
use mathlib.Core.List.{map}
use Rattle.listing.specs.Listing.{block_word, led}
use Rattle.listing.proofs.answers.put_blocks.Given as goal

abbrev pub invariant-loop-block : goal.invariant-loop-block
invariant-loop-block l = record { appended : l.out ≡ l.initial.out ++ led "," (map block_word (take l.block-index l.blocks)); within : length l.out ≤ length l.initial.out + 4 * l.block-index }
