-- `image_blocks::runs::count_runs` meets its contract. The loop's invariant: the runs that end at or before `low` are counted. Assumes nothing.
use Prim.Native.Nat.{◌-◌}
use lib.ListN.{length}
use Rattle.image_blocks.proofs.Ending.{RunsCounted}
use Rattle.image_blocks.proofs.runs.count_runs.Given as goal

abbrev pub invariant-loop-low : goal.invariant-loop-low
invariant-loop-low l = RunsCounted l.weights l.sorted l.low l.many

abbrev pub decreases-loop-low : goal.decreases-loop-low
decreases-loop-low l = length l.sorted - l.low
