-- `treap_links::overtake` meets its contract. The loop's invariant is `Overtaking`. Assumes nothing.
use Rattle.treap_links.proofs.Overtaking.{Overtaking}
use Rattle.treap_links.proofs.overtake.Given as goal

abbrev pub invariant-loop-b : goal.invariant-loop-b
invariant-loop-b l = Overtaking l.weights l.i l.initial.right l.right l.b

abbrev pub decreases-loop-b : goal.decreases-loop-b
decreases-loop-b l = l.b
