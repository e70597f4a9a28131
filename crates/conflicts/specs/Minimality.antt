-- What S, F and C promise of the set that they hand back, over any set and any classes (paper 01, "What the words mean").
-- Assumes nothing.
use Rattle.std.specs.Prelude.{◌≡◌, ◌⊎◌, Bool, true, List, ℕ, ◌≤◌, ◌<◌, T, length, get_or}
use Rattle.below.specs.Below.{bit, ◌=?◌, isnt, count_below, tab}
use Rattle.fields.specs.Record.{span_of, is_call_code, cell_of}
use Rattle.fields.specs.Table.{fragments, record_bytes_at}
use Rattle.conflicts.specs.Grid.{Grid, conflict_on, agree, grid_of}
use Rattle.conflicts.specs.Corrections.{cost, side_letter, differs, cell_total, turned}
use Rattle.conflicts.specs.Answer.{answer_size, keep_mark_in, side_in}
use Rattle.conflicts.specs.Phased.{Phased}

-- nothing is removed
abbrev pub everything : ℕ → Bool
everything i = true

-- "can be put in two classes with no conflict inside a class": of the kept fragments, on the kept columns
pub record TwoClasses (g : Grid) (kept_cols kept_frags : ℕ → Bool) : Type 0 where
  pub class : ℕ → Bool
  pub apart : (i j c : ℕ) → i < g.m → j < g.m → c < g.n → T (kept_frags i) → T (kept_frags j) → T (kept_cols c) → class i ≡ class j → T (conflict_on g c i j) → ⊥

-- paper 001, "error-free": "we can partition the rows into two classes of non-conflicting fragments"
pub record AgreeingClasses (g : Grid) : Type 0 where
  pub class : ℕ → Bool
  pub agrees : (i j : ℕ) → i < g.m → j < g.m → class i ≡ class j → T (agree g i j)

-- "a set of columns makes a table error-free"
abbrev pub ColumnsWork : Grid → (ℕ → Bool) → Type 0
ColumnsWork g removed = TwoClasses g (λ c. isnt (removed c)) everything

-- "a set of fragments does so"
abbrev pub FragmentsWork : Grid → (ℕ → Bool) → Type 0
FragmentsWork g removed = TwoClasses g everything (λ i. isnt (removed i))

-- "a set of calls does so if the table is error-free once each call of the set, and nothing else, is corrected"
pub record CallsWork (g : Grid) (set : ℕ → ℕ → Bool) : Type 0 where
  pub calls : (i c : ℕ) → i < g.m → c < g.n → T (set i c) → T (is_call_code (g.cell i c))
  pub free : TwoClasses (turned g set) everything everything

-- "every kept fragment is on side 1 or 2", a removed one on 0, among k sides; "no conflict inside a side on kept columns"
pub record LawfulSides (k : ℕ) (g : Grid) (kept_cols kept_frags : ℕ → Bool) (side : ℕ → ℕ) : Type 0 where
  pub on : (i : ℕ) → i < g.m → T (kept_frags i) → (1 ≤ side i) × (side i ≤ k)
  pub off : (i : ℕ) → i < g.m → T (isnt (kept_frags i)) → side i ≡ 0
  pub apart : (i j c : ℕ) → i < g.m → j < g.m → c < g.n → T (kept_frags i) → T (kept_frags j) → T (kept_cols c) → side i ≡ side j → T (conflict_on g c i j) → ⊥

-- a set that works, of this size, and no set that works is smaller: the size is how many members it has, and for C what they come to ("their total")
pub record Fewest {Set : Type 0} (Works : Set → Type 0) (size : Set → ℕ) (this : Set) (number : ℕ) : Type 0 where
  pub works : Works this
  pub count : size this ≡ number
  pub bound : (other : Set) → Works other → number ≤ size other

-- "at the first place where two choices differ", this one has the lower digit
pub record Earlier (size : ℕ) (this other : ℕ → ℕ) : Type 0 where
  pub at : ℕ
  pub inside : at < size
  pub before : (i : ℕ) → i < at → this i ≡ other i
  pub lower : this at < other at

-- the same digits at each place
pub record Alike (size : ℕ) (this other : ℕ → ℕ) : Type 0 where
  pub same : (i : ℕ) → i < size → this i ≡ other i

-- fits, and comes first among all that fit
pub record FirstOf {Choice : Type 0} (Fits : Choice → Type 0) (size : ℕ) (digit : Choice → ℕ → ℕ) (this : Choice) : Type 0 where
  pub fits : Fits this
  pub first : (other : Choice) → Fits other → Alike size (digit this) (digit other) ⊎ Earlier size (digit this) (digit other)

-- "S: at the first column where two choices differ, the one that keeps it comes first. F: the same": a kept place has digit 0, a removed one 1
abbrev pub FirstSet : ((ℕ → Bool) → Type 0) → ℕ → (ℕ → Bool) → ℕ → Type 0
FirstSet Works size removed number = FirstOf (λ set. Works set × (count_below size set ≡ number)) size (λ set i. bit (set i)) removed

-- "at the first fragment where two lawful side lists differ, side 1 comes first"
abbrev pub FirstSides : ℕ → Grid → (ℕ → Bool) → (ℕ → Bool) → (ℕ → ℕ) → Type 0
FirstSides k g kept_cols kept_frags side = FirstOf (LawfulSides k g kept_cols kept_frags) g.m (λ s. s) side

-- what check's answer says on a yes: "takes the table's first" lawful sides
pub record ErrorFreeAnswer (g : Grid) (bytes : List ℕ) : Type 0 where
  pub filled : length bytes ≡ answer_size g.m g.n
  pub marks : (c : ℕ) → c < g.n → keep_mark_in bytes c ≡ 1
  pub sides : FirstSides 2 g everything everything (side_in g.n bytes)
  pub phased : Phased g bytes

-- what S's answer and number say: "the columns with keep mark 0"
pub record SnpRemoval (g : Grid) (bytes : List ℕ) (number : ℕ) : Type 0 where
  pub filled : length bytes ≡ answer_size g.m g.n
  pub marks : (c : ℕ) → c < g.n → keep_mark_in bytes c ≤ 1
  pub fewest : Fewest (ColumnsWork g) (count_below g.n) (λ c. keep_mark_in bytes c =? 0) number
  pub first : FirstSet (ColumnsWork g) g.n (λ c. keep_mark_in bytes c =? 0) number
  pub sides : FirstSides 2 g (λ c. isnt (keep_mark_in bytes c =? 0)) everything (side_in g.n bytes)
  pub phased : Phased g bytes

-- what F's answer and number say: "the fragments with side 0"
pub record FragmentRemoval (g : Grid) (bytes : List ℕ) (number : ℕ) : Type 0 where
  pub filled : length bytes ≡ answer_size g.m g.n
  pub marks : (c : ℕ) → c < g.n → keep_mark_in bytes c ≡ 1
  pub fewest : Fewest (FragmentsWork g) (count_below g.m) (λ i. side_in g.n bytes i =? 0) number
  pub first : FirstSet (FragmentsWork g) g.m (λ i. side_in g.n bytes i =? 0) number
  pub sides : FirstSides 2 g everything (λ i. isnt (side_in g.n bytes i =? 0)) (side_in g.n bytes)
  pub phased : Phased g bytes

-- every fragment on one of k sides, at this cost
pub record SidesCost (k : ℕ) (g : Grid) (number : ℕ) (side : ℕ → ℕ) : Type 0 where
  pub on : (i : ℕ) → i < g.m → (1 ≤ side i) × (side i ≤ k)
  pub costs : cost k g (tab g.m side) ≡ number

-- "no other bit is changed": bytes 0 to 7 of each record stay, and so do its cells after the span. Cells of the span stand for columns, and are counted where they differ
pub record OthersKept (given table : List ℕ) : Type 0 where
  pub size : length table ≡ length given
  pub bytes : (j : ℕ) → j < length table → get_or table j 0 < 256
  pub headers : (i b : ℕ) → i < fragments given → b < 8 → get_or (record_bytes_at table i) b 0 ≡ get_or (record_bytes_at given i) b 0
  pub later : (i k : ℕ) → i < fragments given → span_of (record_bytes_at given i) ≤ k → k < 96 → cell_of (record_bytes_at table i) k ≡ cell_of (record_bytes_at given i) k

-- what C's answer, table and number say: "the cells in which its table differs from the one given: these are corrected there, and no other bit is changed"
pub record Corrected (n : ℕ) (given : List ℕ) (bytes table : List ℕ) (number : ℕ) : Type 0 where
  pub filled : length bytes ≡ answer_size (grid_of n given).m n
  pub marks : (c : ℕ) → c < n → keep_mark_in bytes c ≡ 1
  pub fewest : Fewest (CallsWork (grid_of n given)) (cell_total (grid_of n given)) (differs (grid_of n given) (grid_of n table)) number
  pub turns : (i c : ℕ) → i < (grid_of n given).m → c < n → (grid_of n table).cell i c ≡ (turned (grid_of n given) (differs (grid_of n given) (grid_of n table))).cell i c
  pub holes : (i c : ℕ) → i < (grid_of n given).m → c < n → T (isnt (is_call_code ((grid_of n given).cell i c))) → (grid_of n table).cell i c ≡ (grid_of n given).cell i c
  pub others : OthersKept given table
  pub sides : FirstOf (SidesCost 2 (grid_of n given) number) (grid_of n given).m (λ s. s) (side_in n bytes)
  pub cheapest : (side : ℕ → ℕ) (other : ℕ) → SidesCost 2 (grid_of n given) other side → number ≤ other
  pub letters : (i c : ℕ) → i < (grid_of n given).m → c < n → T (is_call_code ((grid_of n given).cell i c))
      → (grid_of n table).cell i c ≡ side_letter (grid_of n given) (tab (grid_of n given).m (side_in n bytes)) (side_in n bytes i) c
  pub phased : Phased (grid_of n table) bytes
