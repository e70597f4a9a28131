-- Bytes, and the numbers and codes that they hold.
-- Assumes nothing.
use mathlib.Core.Path.{◌≡◌, refl, sym, ap, ap₂, ◌∙◌}
use mathlib.Core.List.{List, [], ◌∷◌, ◌++◌}
use Prim.Native.Nat.{ℕ, zero, suc, ◌+◌, ◌*◌, ◌/◌, ◌%◌, ◌^◌, ◌≤◌, ◌<◌}
use native.Mathlib.Omega.{arith}
use lib.ListN.{length, get_or, drop, length-drop}
use lib.Seq.{get_or-drop, ext_get_or, drop_at}
use Rattle.below.specs.Below.{◌<?◌, sum_below}
use Rattle.fields.specs.Record.{little_endian, cell_of}
use Rattle.fields.specs.Writing.{bytes_of, cell_bytes}
use Rattle.below.proofs.BelowLaws.{if-ind, if-true, if-false, lt-<?, le-isnt, length-tab, get_or-tab, sum-ext}

-- ---- numbers

-- bytes, read as a number and written again
pub bytes-again : (bs : List ℕ) → ((i : ℕ) → i < length bs → get_or bs i 0 < 256) → bytes_of (length bs) (little_endian bs) ≡ bs
unfolding bytes_of little_endian
bytes-again [] f = refl
bytes-again (b ∷ bs) f =
    let h : b < 256 = f 0 (omega arith) in
    let q : (b + 256 * little_endian bs) / 256 ≡ little_endian bs = omega arith in
    let m : (b + 256 * little_endian bs) % 256 ≡ b = omega arith in
    ap₂ ◌∷◌ m (ap (bytes_of (length bs)) q ∙ bytes-again bs (λ i l. f (suc i) (omega arith)))

-- a number that fits, written and read again
pub number-two : (x : ℕ) → x < 65536 → little_endian (bytes_of 2 x) ≡ x
unfolding bytes_of little_endian
number-two x h = omega arith

pub number-four : (x : ℕ) → x < 4294967296 → little_endian (bytes_of 4 x) ≡ x
unfolding bytes_of little_endian
number-four x h = omega arith

-- ---- a record's cells

pub cell_in : (r : List ℕ) (i : ℕ) → i < 96 → cell_of r i ≡ get_or r (8 + i / 4) 0 / 4 ^ (i % 4) % 4
unfolding cell_of
cell_in r i h = if-true (i <? 96) _ _ (lt-<? i 96 h)

pub cell-past : (r : List ℕ) (i : ℕ) → 96 ≤ i → cell_of r i ≡ 0
unfolding cell_of
cell-past r i h = if-false (i <? 96) _ _ (le-isnt i 96 h)

-- a cell has two bits
pub cell-small : (r : List ℕ) (i : ℕ) → cell_of r i < 4
unfolding cell_of
cell-small r i = if-ind (λ x. x < 4) (i <? 96) (λ t. omega arith) (λ t. omega arith)

-- ---- four codes to a byte

-- what holds of 0, 1, 2 and 3 holds of each number below 4
pub four {ℓ} : (P : ℕ → Type ℓ) → P 0 → P 1 → P 2 → P 3 → (k : ℕ) → k < 4 → P k
four P a b c d zero l = a
four P a b c d (suc zero) l = b
four P a b c d (suc (suc zero)) l = c
four P a b c d (suc (suc (suc zero))) l = d
four P a b c d (suc (suc (suc (suc k)))) l = absurd (omega arith)

-- the codes of a byte that was written from four
pick : (f : ℕ → ℕ) → ((q : ℕ) → q < 4 → f q < 4) → (k : ℕ) → k < 4 → sum_below 4 (λ q. 4 ^ q * f q) / 4 ^ k % 4 ≡ f k
unfolding sum_below
pick f h =
    let a = h 0 (omega arith) in
    let b = h 1 (omega arith) in
    let c = h 2 (omega arith) in
    let d = h 3 (omega arith) in
    four (λ k. sum_below 4 (λ q. 4 ^ q * f q) / 4 ^ k % 4 ≡ f k) (omega arith) (omega arith) (omega arith) (omega arith)

-- a byte, written again from its four codes
joined : (x : ℕ) → x < 256 → sum_below 4 (λ q. 4 ^ q * (x / 4 ^ q % 4)) ≡ x
unfolding sum_below
joined x h =
    let u : x / 1 % 4 + 4 * (x / 4) ≡ x = omega arith in
    let v : x / 4 % 4 + 4 * (x / 16) ≡ x / 4 = omega arith in
    let w : x / 16 % 4 + 4 * (x / 64) ≡ x / 16 = omega arith in
    let z : x / 64 % 4 ≡ x / 64 = omega arith in
    omega arith

pub length-cell_bytes : (codes : ℕ → ℕ) → length (cell_bytes codes) ≡ 24
unfolding cell_bytes
length-cell_bytes codes = length-tab 24 _

-- byte b of the cells
pub cell_byte_of-at : (codes : ℕ → ℕ) (b : ℕ) → b < 24 → get_or (cell_bytes codes) b 0 ≡ sum_below 4 (λ q. 4 ^ q * codes (4 * b + q))
unfolding cell_bytes
cell_byte_of-at codes b l = get_or-tab 24 (λ b. sum_below 4 (λ q. 4 ^ q * codes (4 * b + q))) b 0 l

-- the codes of a record whose cells were written from codes
pub code-written : (h : List ℕ) (codes : ℕ → ℕ) → length h ≡ 8 → ((i : ℕ) → i < 96 → codes i < 4) → (i : ℕ) → i < 96 → cell_of (h ++ cell_bytes codes) i ≡ codes i
code-written h codes e small i l =
    let b = i / 4 in
    let k = i % 4 in
    let at : get_or (h ++ cell_bytes codes) (8 + b) 0 ≡ sum_below 4 (λ q. 4 ^ q * codes (4 * b + q)) =
    sym (get_or-drop 8 (h ++ cell_bytes codes) b 0) ∙ ap (λ (x : List ℕ). get_or x b 0) (drop_at h (cell_bytes codes) 8 e) ∙ cell_byte_of-at codes b (omega arith) in
    cell_in (h ++ cell_bytes codes) i l
    ∙ ap (λ (x : ℕ). x / 4 ^ k % 4) at
    ∙ pick (λ q. codes (4 * b + q)) (λ q m. small (4 * b + q) (omega arith)) k (omega arith)
    ∙ ap codes (omega arith)

-- the cell bytes of a record, written again from its codes
pub cell_bytes-again : (r : List ℕ) (codes : ℕ → ℕ) → length r ≡ 32 → ((i : ℕ) → i < 32 → get_or r i 0 < 256) → ((i : ℕ) → i < 96 → codes i ≡ cell_of r i)
    → cell_bytes codes ≡ drop 8 r
cell_bytes-again r codes e small same =
    ext_get_or 0 (cell_bytes codes) (drop 8 r) (length-cell_bytes codes ∙ (let d = length-drop 8 r in omega arith))
    (λ b l0. let l : b < 24 = rw (length-cell_bytes codes) at l0 in
    cell_byte_of-at codes b l
    ∙ sum-ext 4 _ _ (λ q m. ap (λ (x : ℕ). 4 ^ q * x) (same (4 * b + q) (omega arith) ∙ cell_in r (4 * b + q) (omega arith) ∙ ap₂ (λ (x y : ℕ). get_or r (8 + x) 0 / 4 ^ y % 4) (omega arith) (omega arith)))
    ∙ joined (get_or r (8 + b) 0) (small (8 + b) (omega arith))
    ∙ sym (get_or-drop 8 r b 0))
