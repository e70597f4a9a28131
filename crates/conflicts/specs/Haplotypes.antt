-- Haplotypes (paper 01, "What the words mean").
-- Assumes nothing.
use Rattle.std.specs.Prelude.{ℕ, suc, List, get_or, if◌then◌else◌}
use Rattle.below.specs.Below.{◌=?◌, tab, concat}
use Rattle.fields.specs.Record.{is_call_code}
use Rattle.conflicts.specs.Choice.{first, marked}
use Rattle.conflicts.specs.Grid.{Grid}

-- "the call of its side's kept fragments there, or a hole if none calls it"
unfoldable pub side_call : Grid → List ℕ → ℕ → ℕ → ℕ
side_call g sides s c = first is_call_code (tab g.m (λ i. if get_or sides i 0 =? s then g.cell i c else 0)) 0

-- "a haplotype at a kept column"; 3 at a removed column
unfoldable pub haplotype : Grid → List ℕ → List ℕ → ℕ → ℕ → ℕ
haplotype g keep_cols sides s c = if marked keep_cols c then side_call g sides s c else 3

-- "haplotype 1, then haplotype 2, n codes each", of sides 1 to k
unfoldable pub haplotypes : ℕ → Grid → List ℕ → List ℕ → List ℕ
haplotypes k g keep_cols sides = concat (tab k (λ h. tab g.n (haplotype g keep_cols sides (suc h))))
