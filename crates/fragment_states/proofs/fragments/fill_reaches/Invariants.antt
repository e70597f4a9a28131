-- `fragments::fill_reaches` meets its contract. The loop's invariant: the states below s are done.
-- Assumes nothing.
use Rattle.masks.specs.Algorithm.Masks.{words_grid}
use Rattle.fragment_states.specs.Algorithm.Fragments.{Between, state_reach_of}
use Rattle.fragment_states.proofs.fragments.fill_reaches.Given as goal

abbrev pub invariant-loop-s : goal.invariant-loop-s
invariant-loop-s l = Between (state_reach_of (words_grid l.m l.n l.masks)) 0 l.s l.reaches
