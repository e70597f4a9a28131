-- Records written from calls (paper 01, "Records and calls": "Pack does the reverse").
-- Assumes nothing.
use Rattle.std.specs.Prelude.{◌≡◌, Bool, List, [], ◌∷◌, ◌++◌, ℕ, zero, suc, ◌+◌, ◌*◌, ◌-◌, ◌/◌, ◌%◌, ◌^◌, length, get_or, if◌then◌else◌}
use Rattle.below.specs.Below.{◌=?◌, ◌<?◌, ◌≤?◌, ◌and◌, isnt, any_below, sum_below, first_below, end_below, tab, concat}
use Rattle.fields.specs.Record.{is_call_code}

-- k little-endian bytes of a number
unfoldable pub bytes_of : ℕ → ℕ → List ℕ
bytes_of zero x = []
bytes_of (suc k) x = x % 256 ∷ bytes_of k (x / 256)

-- the 24 bytes that hold the codes of 96 cells, four to a byte
unfoldable pub cell_bytes : (ℕ → ℕ) → List ℕ
cell_bytes codes = tab 24 (λ b. sum_below 4 (λ q. 4 ^ q * codes (4 * b + q)))

-- one past the last called column of a row of n codes, 0 without calls
unfoldable pub calls_end_of : ℕ → (ℕ → ℕ) → ℕ
calls_end_of n row = end_below n (λ c. is_call_code (row c))

-- "start": the first called column, 0 without calls
unfoldable pub calls_start_of : ℕ → (ℕ → ℕ) → ℕ
calls_start_of n row = if calls_end_of n row =? 0 then 0 else first_below n (λ c. is_call_code (row c))

-- "span": how many columns the calls reach over
unfoldable pub calls_span_of : ℕ → (ℕ → ℕ) → ℕ
calls_span_of n row = calls_end_of n row - calls_start_of n row

-- a row of n codes "has no call"
unfoldable pub without_calls : ℕ → (ℕ → ℕ) → Bool
without_calls n row = isnt (any_below n (λ c. is_call_code (row c)))

-- the codes of a span that starts at column f and is s columns long
unfoldable pub cut : ℕ → ℕ → (ℕ → ℕ) → ℕ → ℕ
cut f s row i = if i <? s then row (f + i) else 0

-- a record's 32 bytes by its fields and the codes of its cells
unfoldable pub laid_out : ℕ → ℕ → ℕ → ℕ → (ℕ → ℕ) → List ℕ
laid_out t f s g codes = bytes_of 4 t ++ bytes_of 2 f ++ s ∷ g ∷ cell_bytes codes

-- the record of a fragment, from its tag, its grade and its code at each of n columns
unfoldable pub record_of : ℕ → ℕ → ℕ → (ℕ → ℕ) → List ℕ
record_of n t g row = laid_out t (calls_start_of n row) (calls_span_of n row) g (cut (calls_start_of n row) (calls_span_of n row) row)

-- the codes of a row of cells, a hole past its end
abbrev pub codes_of : List ℕ → ℕ → ℕ
codes_of row c = get_or row c 0

-- a row is writable: at most 128 columns, no code over 2, calls that reach over at most 96 columns
unfoldable pub writable_row : ℕ → (ℕ → ℕ) → Bool
writable_row n row = n ≤? 128 and isnt (any_below n (λ c. 2 <? row c)) and calls_span_of n row ≤? 96

-- a grade and a row are: "0 to 15", and such a row
unfoldable pub writable : ℕ → ℕ → (ℕ → ℕ) → Bool
writable n g row = g ≤? 15 and writable_row n row

-- what writing a row's record into its own 32 bytes did: `done` where it was written, else the bytes are the old ones
pub record RecordWritten (tag grade : ℕ) (row old new : List ℕ) (done : Bool) : Type 0 where
  pub answer : done ≡ (length old =? 32 and writable (length row) grade (codes_of row))
  pub bytes : new ≡ if done then record_of (length row) tag grade (codes_of row) else old

-- the row of a fragment among m × n cells
unfoldable pub row_of : ℕ → List ℕ → ℕ → ℕ → ℕ
row_of n cells i c = get_or cells (i * n + c) 0

-- pack's table, from m × n cells, m tags and m grades
unfoldable pub packed : ℕ → List ℕ → List ℕ → List ℕ → List ℕ
packed n cells tags grades = concat (tab (length tags) (λ i. record_of n (get_or tags i 0) (get_or grades i 0) (row_of n cells i)))
