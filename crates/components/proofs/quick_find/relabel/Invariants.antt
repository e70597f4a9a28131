-- `quick_find::relabel` meets its contract. The invariant: the fragments passed have their new labels and sides, by those at entry.
-- Assumes nothing.
use Rattle.components.proofs.SweepLaws.{Remade}
use Rattle.components.proofs.StepLaws.{new_label_of, new_side_of}
use Rattle.components.proofs.quick_find.relabel.Given as goal

abbrev pub invariant-loop-k : goal.invariant-loop-k
invariant-loop-k l = Remade (new_label_of l.lo l.hi l.initial.labels) l.initial.labels l.labels l.k × Remade (new_side_of l.hi l.turn l.initial.labels l.initial.sides) l.initial.sides l.sides l.k
