-- `treap_links::root_of` meets its contract. The loop's invariant is `Narrowed`. Assumes nothing.
use Prim.Native.Nat.{◌-◌}
use Rattle.treap_links.proofs.Narrowing.{Narrowed}
use Rattle.treap_links.proofs.root_of.Given as goal

abbrev pub invariant-loop-a : goal.invariant-loop-a
invariant-loop-a l = Narrowed l.weights l.lo l.hi l.a l.b

abbrev pub decreases-loop-a : goal.decreases-loop-a
decreases-loop-a l = l.b - l.a
