-- `treap_links::grow` meets its contract. The loop's invariant is `Grown`: with the part from a up to b still to be written,
-- the columns become the final ones. The measure of the calls is the length of the part. Assumes nothing.
use Prim.Native.Nat.{◌-◌}
use Rattle.treap_links.proofs.Growth.{Grown}
use Rattle.treap_links.proofs.+grow.Given as goal

abbrev pub invariant-loop-a : goal.invariant-loop-a
invariant-loop-a l = Grown l.weights l.lo l.hi l.initial.left l.initial.right l.left l.right l.a l.b l.at

abbrev pub decreases-loop-a : goal.decreases-loop-a
decreases-loop-a l = l.b - l.a

abbrev pub decreases-grow : goal.decreases-grow
decreases-grow l = l.hi - l.lo
