-- A table read stage by stage: it is handed on, or refused by the first rule of the stage that is broken.
-- Assumes nothing.
use Rattle.std.specs.Prelude.{◌≡◌, List, ℕ, Result, Ok, Err}
use Rattle.fields.specs.Table.{fragments}
use Rattle.records.specs.declared.refusal.Refusal.{Refusal}
use Rattle.records.specs.declared.table.SizedTable.{SizedTable}
use Rattle.records.specs.declared.table.SoundTable.{SoundTable}
use Rattle.records.specs.declared.table.GaplessTable.{GaplessTable}
use Rattle.records.specs.Outcome.{accepted, refused, number_of}
use Rattle.records.specs.Rules.{decide, size_rules, table_rules, gapless_table_rules}

-- reading the sizes of a table: it is handed on, or refused by the first of the rules 3, 1 and 2 that is broken
abbrev pub SizedBy : ℕ → List ℕ → Result SizedTable Refusal → Type 0
SizedBy n bytes (Ok t) = record { columns : t.n ≡ n; same : t.bytes.now ≡ bytes }
SizedBy n bytes (Err r) = decide (size_rules n bytes) (accepted (fragments bytes)) ≡ refused (number_of r.fault) r.place

-- … its records, by 4 to 7, 9 and 13
abbrev pub SoundBy : SizedTable → Result SoundTable Refusal → Type 0
SoundBy table (Ok t) = t.sized ≡ table
SoundBy table (Err r) = decide (table_rules table.n table.bytes.now) (accepted (fragments table.bytes.now)) ≡ refused (number_of r.fault) r.place

-- … by 4 to 9 and 13
abbrev pub GaplessBy : SizedTable → Result GaplessTable Refusal → Type 0
GaplessBy table (Ok t) = t.sized ≡ table
GaplessBy table (Err r) = decide (gapless_table_rules table.n table.bytes.now) (accepted (fragments table.bytes.now)) ≡ refused (number_of r.fault) r.place
