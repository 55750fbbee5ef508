-- `image_blocks::names::weigh` meets its contract. The loop's invariant: the first i weights are written. Assumes nothing.
use mathlib.Core.List.{map}
use mathlib.Core.Path.{◌≡◌}
use Prim.Native.Nat.{◌≤◌}
use Rattle.lists.specs.Lists.{up_from, overwrite}
use Rattle.image_blocks.specs.Naming.{block_weight}
use Rattle.image_blocks.proofs.names.weigh.Given as goal

abbrev pub invariant-loop-i : goal.invariant-loop-i
invariant-loop-i l = (l.i ≤ l.n) × (l.weights ≡ overwrite l.initial.weights 0 (map (block_weight l.root l.rank l.leader) (up_from 0 l.i)))
