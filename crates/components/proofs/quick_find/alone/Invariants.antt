-- `quick_find::alone` meets its contract. The invariant: the fragments passed are by themselves, on side 1.
-- Assumes nothing.
use Rattle.components.proofs.SweepLaws.{Remade}
use Rattle.components.proofs.StepLaws.{own_label_of, own_side_of}
use Rattle.components.proofs.quick_find.alone.Given as goal

abbrev pub invariant-loop-k : goal.invariant-loop-k
invariant-loop-k l = Remade (own_label_of l.frags) l.initial.labels l.labels l.k × Remade (own_side_of l.frags) l.initial.sides l.sides l.k
