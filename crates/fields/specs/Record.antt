-- A record of 32 bytes and its cells (paper 01, "Records and calls"). A byte past the end of a shorter list counts as 0.
-- Assumes nothing.
use Rattle.std.specs.Prelude.{ℕ, ◌+◌, ◌*◌, ◌-◌, ◌/◌, ◌%◌, ◌^◌, Bool, List, [], ◌∷◌, get_or, take, drop, if◌then◌else◌}
use Rattle.below.specs.Below.{◌=?◌, ◌<?◌, ◌≤?◌, ◌and◌, ◌or◌}

-- "numbers are little-endian": the number whose bytes these are
unfoldable pub little_endian : List ℕ → ℕ
little_endian [] = 0
little_endian (b ∷ bs) = b + 256 * little_endian bs

-- "tag": bytes 0 to 3
unfoldable pub tag_of : List ℕ → ℕ
tag_of r = little_endian (take 4 r)

-- "start", the first called column: bytes 4 and 5
unfoldable pub start_of : List ℕ → ℕ
start_of r = little_endian (take 2 (drop 4 r))

-- "span": byte 6
unfoldable pub span_of : List ℕ → ℕ
span_of r = get_or r 6 0

-- "grade": byte 7
unfoldable pub grade_of : List ℕ → ℕ
grade_of r = get_or r 7 0

-- "call": a code A (1) or B (2); 0 is a hole, and 3 has no meaning
unfoldable pub is_call_code : ℕ → Bool
is_call_code x = x =? 1 or x =? 2

-- "cell i": the two bits of byte 8 + i / 4 from bit 2 × (i mod 4). There are 96 cells
unfoldable pub cell_of : List ℕ → ℕ → ℕ
cell_of r i = if i <? 96 then get_or r (8 + i / 4) 0 / 4 ^ (i % 4) % 4 else 0

-- the code at a column: "cell i of the span belongs to column start + i", and a hole stands outside the span
unfoldable pub code_at : List ℕ → ℕ → ℕ
code_at r c = if start_of r ≤? c and c <? start_of r + span_of r then cell_of r (c - start_of r) else 0
