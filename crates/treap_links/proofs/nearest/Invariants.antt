-- `treap_links::nearest` meets its contract. The loop's invariant is `Passing`. Assumes nothing.
use Rattle.treap_links.proofs.Passing.{Passing}
use Rattle.treap_links.proofs.nearest.Given as goal

abbrev pub invariant-loop-i : goal.invariant-loop-i
invariant-loop-i l = Passing l.weights l.initial.left l.initial.right l.left l.right l.i
