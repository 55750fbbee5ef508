-- `treap_leaders::leaders` meets its contract. The loop's invariant: the column has the leaders of the root and of the
-- children of the positions of the entries passed, and is as it was from `n` on. Assumes nothing.
use lib.ListN.{length, take}
use Rattle.treap_columns.proofs.Filled.{Kept}
use Rattle.treap_leaders.proofs.Leading.{Led}
use Rattle.treap_leaders.proofs.leaders.Given as goal

abbrev pub invariant-loop-entry : goal.invariant-loop-entry
invariant-loop-entry l =
    Kept (length l.weights) l.initial.leader l.leader
    × Led l.alpha l.weights (take l.entry-index (take l.n (take l.n l.order))) l.leader
