-- `image_collect::check_records` meets its contract. The loop's invariant: the records passed are written down, and those to come are
-- read from here on. Assumes nothing.
use Rattle.image_collect.proofs.Passing.{Passed}
use Rattle.image_collect.proofs.check_records.Given as goal

abbrev pub invariant-loop-i : goal.invariant-loop-i
invariant-loop-i l = Passed l.records l.initial.keys l.initial.tags l.held l.from l.keys l.tags l.at l.i
