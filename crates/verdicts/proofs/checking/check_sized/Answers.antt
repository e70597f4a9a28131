use mathlib.Core.Bool.{Bool}
use mathlib.Core.Path.{◌≡◌, subst, sym, ◌∙◌}
use lib.ListN.{length}
use Rattle.fields.specs.Table.{fragments}
use Rattle.conflicts.specs.Choice.{keep_all}
use Rattle.conflicts.specs.Grid.{grid_of}
use Rattle.conflicts.specs.Answer.{answer_size}
use Rattle.phasing.specs.Algorithm.Answer.{AnswerFound}
use Rattle.records.specs.Outcome.{accepted}
use Rattle.records.specs.Rules.{decide, table_rules}
use Rattle.records.specs.declared.table.SizedTable.{SizedTable}
use Rattle.records.proofs.RuleLaws.{decide-refused}
use Rattle.records.proofs.OutcomeLaws.{passed_on}
use Rattle.records.proofs.AcceptedLaws.{sized-n, sized-m}
use Rattle.verdicts.proofs.CheckLaws.{check-length, check-records, check-refuses, check-says}
use native.Mathlib.Omega.{arith}
use Rattle.verdicts.proofs.checking.check_sized.Goals as goal
use Rattle.verdicts.proofs.checking.check_sized.Goals.{In_ok-sound, After-phase_table}

clauses-outcome-answer : {A B : Type 0} → A × B → record { outcome : A; answer : B }
clauses-outcome-answer w = record { outcome = w.0; answer = w.1 }

-- the table that was read keeps the rules of its records
kept : (c : In_ok-sound) → decide (table_rules c.args.table.n c.args.table.bytes.now) (accepted (fragments c.args.table.bytes.now)) ≡ accepted c.args.table.m
kept c = subst (λ (s : SizedTable). decide (table_rules s.n s.bytes.now) (accepted (fragments s.bytes.now)) ≡ accepted s.m) c.in_ok-sound.ensures c.in_ok-sound.field-0.records

-- what phasing said, by its answer
said : (c : After-phase_table) (ok : Bool) → c.phase_table.result ≡ ok
    → AnswerFound (grid_of c.args.table.n c.args.table.bytes.now) (keep_all c.args.table.n) (keep_all c.args.table.m) ok c.args.answer.now c.phase_table.new.answer
said c ok e =
    subst (λ (b : Bool). AnswerFound (grid_of c.args.table.n c.args.table.bytes.now) (keep_all c.args.table.n) (keep_all c.args.table.m) b c.args.answer.now c.phase_table.new.answer) e
    (subst (λ (s : SizedTable). AnswerFound (grid_of s.n s.bytes.now) (keep_all s.n) (keep_all s.m) c.phase_table.result c.args.answer.now c.phase_table.new.answer) c.in_ok-sound.ensures c.phase_table.ensures)

pub overflow_mul-table : goal.overflow_mul-table
overflow_mul-table c = let a = sized-n c.args.table.sizes in omega arith

pub overflow_mul-table-2 : goal.overflow_mul-table-2
overflow_mul-table-2 c = let a = sized-m c.args.table.sizes in omega arith

pub overflow_add-table : goal.overflow_add-table
overflow_add-table c = let a = sized-n c.args.table.sizes in let b = sized-m c.args.table.sizes in omega arith

pub returns-then-answer-table : goal.returns-then-answer-table
unfolding answer_size
returns-then-answer-table c =
    rw c.at.ensures (clauses-outcome-answer (check-refuses _ _ _ 11 0 (check-length _ _ _ c.args.table.m c.args.table.sizes c.if-answer-table.true)))

pub phase_table-requires : goal.phase_table-requires
unfolding answer_size
phase_table-requires c =
    subst (λ (s : SizedTable). length c.args.answer.now ≡ answer_size s.m s.n) (sym c.in_ok-sound.ensures) c.if-answer-table.false

pub returns-then-phase_table : goal.returns-then-phase_table
unfolding answer_size
returns-then-phase_table c =
    clauses-outcome-answer (check-says _ _ _ c.args.table.m c.args.table.sizes _ _ _ c.if-answer-table.false (kept (goal.at.returns-then-phase_table c).In_ok-sound)
    (said (goal.at.returns-then-phase_table c).After-phase_table _ c.if-phase_table.true))

pub returns-in_err-sound : goal.returns-in_err-sound
unfolding answer_size
returns-in_err-sound c =
    rw (passed_on _ _ c.from_residual.ensures)
    (clauses-outcome-answer (check-refuses _ _ _ _ _ (check-records _ _ _ c.args.table.m c.args.table.sizes c.if-answer-table.false ∙ decide-refused _ _ _ _ _ c.in_err-sound.ensures)))

pub returns-else-phase_table : goal.returns-else-phase_table
unfolding answer_size
returns-else-phase_table c =
    clauses-outcome-answer (check-says _ _ _ c.args.table.m c.args.table.sizes _ _ _ c.if-answer-table.false (kept (goal.at.returns-else-phase_table c).In_ok-sound)
    (said (goal.at.returns-else-phase_table c).After-phase_table _ c.if-phase_table.false))
