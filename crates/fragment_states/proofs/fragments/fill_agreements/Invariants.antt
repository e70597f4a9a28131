-- `fragments::fill_agreements` meets its contract. The loop's invariant: the states from the first on and below s are done.
-- Assumes nothing.
use Rattle.below.specs.Below.{bit}
use Rattle.fragment_states.specs.Algorithm.Fragments.{Between, words_join}
use Rattle.fragment_states.proofs.fragments.fill_agreements.Given as goal

abbrev pub invariant-loop-s : goal.invariant-loop-s
invariant-loop-s l = Between (λ q. bit (words_join l.masks q l.i)) l.first l.s l.agrees
