-- `table_descend::look_up_after` meets its contract. The loop's invariant: what is left to search is the subtree of `at`, and the blocks counted
-- with those ahead that no earlier lookup met are those of the whole way. The measure is the size of that subtree. Assumes nothing.
use Rattle.treap_structure.proofs.Shape.{size}
use Rattle.table.specs.Table.{contents_of}
use Rattle.table_descend.specs.Places.{Placed}
use Rattle.table_descend.proofs.WayDown.{rest, Searching}
use Rattle.table_descend.proofs.look_up_after.Given as goal

abbrev pub invariant-loop-at : goal.invariant-loop-at
invariant-loop-at l = Searching (contents_of l.many l.table) l.key l.last l.before l.at.key l.at.level l.low l.met × Placed l.many l.table l.at

abbrev pub decreases-loop-at : goal.decreases-loop-at
decreases-loop-at l = size (rest (contents_of l.many l.table) l.at.key)
