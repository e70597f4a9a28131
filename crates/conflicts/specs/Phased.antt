-- What the haplotypes and blocks of an answer say (paper 01, "What the words mean"). For C the matrix is the corrected one.
-- Assumes nothing.
use Rattle.std.specs.Prelude.{◌≡◌, Bool, List, ℕ, suc, ◌≤◌, ◌<◌, T}
use Rattle.below.specs.Below.{◌=?◌, isnt, tab}
use Rattle.fields.specs.Record.{is_call_code}
use Rattle.conflicts.specs.Grid.{Grid}
use Rattle.conflicts.specs.Blocks.{linked, Chain}
use Rattle.conflicts.specs.Answer.{keep_mark_in, haplotype_in, side_in, block_in}

-- "the call of its side's kept fragments there, or a hole if none calls it"; 3 at a removed column
pub record Haplotyped (g : Grid) (bytes : List ℕ) : Type 0 where
  pub common : (h i c : ℕ) → h < 2 → i < g.m → c < g.n → T (isnt (keep_mark_in bytes c =? 0)) → side_in g.n bytes i ≡ suc h → T (is_call_code (g.cell i c))
      → haplotype_in g.n bytes h c ≡ g.cell i c
  pub hole : (h c : ℕ) → h < 2 → c < g.n → T (isnt (keep_mark_in bytes c =? 0)) → ((i : ℕ) → i < g.m → side_in g.n bytes i ≡ suc h → T (is_call_code (g.cell i c)) → ⊥)
      → haplotype_in g.n bytes h c ≡ 0
  pub removed : (h c : ℕ) → h < 2 → c < g.n → T (keep_mark_in bytes c =? 0) → haplotype_in g.n bytes h c ≡ 3

-- neighbours by the keep marks and the sides of an answer
abbrev pub linked_in : Grid → List ℕ → ℕ → ℕ → Bool
linked_in g bytes = linked g (tab g.n (keep_mark_in bytes)) (tab g.m (side_in g.n bytes))

-- "two kept fragments are in one block exactly if a chain of kept fragments joins them"; "numbered by its lowest record position"
pub record Blocked (g : Grid) (bytes : List ℕ) : Type 0 where
  pub joined : (i j : ℕ) → i < g.m → j < g.m → T (isnt (side_in g.n bytes i =? 0)) → T (isnt (side_in g.n bytes j =? 0))
      → Chain g.m (linked_in g bytes) i j → block_in g.m g.n bytes i ≡ block_in g.m g.n bytes j
  pub together : (i j : ℕ) → i < g.m → j < g.m → T (isnt (side_in g.n bytes i =? 0)) → T (isnt (side_in g.n bytes j =? 0))
      → block_in g.m g.n bytes i ≡ block_in g.m g.n bytes j → Chain g.m (linked_in g bytes) i j
  pub member : (i : ℕ) → i < g.m → T (isnt (side_in g.n bytes i =? 0)) → Chain g.m (linked_in g bytes) i (block_in g.m g.n bytes i)
  pub lowest : (i j : ℕ) → i < g.m → j < g.m → T (isnt (side_in g.n bytes i =? 0)) → Chain g.m (linked_in g bytes) i j → block_in g.m g.n bytes i ≤ j
  pub removed : (i : ℕ) → i < g.m → T (side_in g.n bytes i =? 0) → block_in g.m g.n bytes i ≡ 255

-- an answer's haplotypes and blocks
pub record Phased (g : Grid) (bytes : List ℕ) : Type 0 where
  pub haplotypes : Haplotyped g bytes
  pub blocks : Blocked g bytes
