use Rattle.std.proofs.Common.{◌≡◌, ℕ, ◌+◌, ◌-◌, ◌≤◌, List, ◌++◌, length, take, sym, ap, ◌∙◌, subst, length-take-le, rules}
use Rattle.std.proofs.KnownBytes.{Consumes-trans}
use Rattle.std.specs.Io.KnownBytes.{Consumes}
use borrow.Rule.Slice.PartMut.{put_mid, post_of}
use lib.Seq.{take-append-add, take-append-le}
use Rattle.listing.proofs.input.read_input.Goals as goal

-- a read into the part after `count` bytes gives n more
read_more : (count k n : ℕ) (buffer part : List ℕ) → count ≤ length buffer → n ≤ length part → take (count + n) (put_mid count k buffer part) ≡ take count buffer ++ take n part
read_more count k n buffer part within fits =
    let after = post_of count k buffer in
    ap (λ (j : ℕ). take (j + n) (take count buffer ++ (part ++ after))) (sym (length-take-le count buffer within))
    ∙ take-append-add (take count buffer) (part ++ after) n
    ∙ ap (λ (l : List ℕ). take count buffer ++ l) (take-append-le n part after fits)

pub loop-count-preserved : goal.loop-count-preserved
loop-count-preserved g c =
    let l = c.loop-count in
    let i = l.invariant in
    let e = read_more l.count (length l.buffer - l.count) c.in_ok-more.more l.buffer c.read.new.buf i.within c.in_ok-more.ensures.bound.0 in
    record { within = search rules; sized = search rules; bytes = subst (Consumes _ _) (sym e) (Consumes-trans _ _ _ _ _ i.bytes c.in_ok-more.ensures.bytes.0) }
