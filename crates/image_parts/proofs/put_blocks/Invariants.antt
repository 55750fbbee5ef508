-- `image_parts::put_blocks` meets its contract. The loop's invariant: the parts of the blocks before `low` are written.
-- Assumes nothing.
use Prim.Native.Nat.{◌-◌}
use lib.ListN.{length}
use Rattle.treap_columns.specs.Lent.{lists_of}
use Rattle.image_parts.proofs.Passing.{BlocksPut}
use Rattle.image_parts.proofs.put_blocks.Given as goal

abbrev pub invariant-loop-low : goal.invariant-loop-low
invariant-loop-low l = BlocksPut l.keys l.tags l.root (lists_of l.columns) l.weights l.from l.sorted l.initial.output l.output l.low l.at

abbrev pub decreases-loop-low : goal.decreases-loop-low
decreases-loop-low l = length l.sorted - l.low
