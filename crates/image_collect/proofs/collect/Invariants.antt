-- `image_collect::collect` meets its contract. The loop's invariant: the entries of the blocks passed are collected. Assumes nothing.
use Rattle.image_collect.proofs.Walking.{Walked}
use Rattle.image_collect.proofs.collect.Given as goal

abbrev pub invariant-loop : goal.invariant-loop
invariant-loop l = Walked l.image l.initial.keys l.initial.tags l.keys l.tags l.at l.n l.counter
