-- `image_equal::same_bytes` meets its contract. The loop's invariant: the differences so far are gathered. Assumes nothing.
use Rattle.image_equal.proofs.SameBytes.{Gathered}
use Rattle.image_equal.proofs.same_bytes.Given as goal

abbrev pub invariant-loop-i : goal.invariant-loop-i
invariant-loop-i l = Gathered l.left l.right l.gathered l.i
