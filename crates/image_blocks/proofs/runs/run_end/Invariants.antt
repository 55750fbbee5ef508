-- `image_blocks::runs::run_end` meets its contract. The loop's invariant: the list has one weight from `low` up to `high`. Assumes nothing.
use Rattle.image_blocks.proofs.Ending.{Running}
use Rattle.image_blocks.proofs.runs.run_end.Given as goal

abbrev pub invariant-loop-high : goal.invariant-loop-high
invariant-loop-high l = Running l.weights l.sorted l.low l.weight l.high
