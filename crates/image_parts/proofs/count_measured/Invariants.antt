-- `image_parts::count_measured` meets its contract. The loop's invariant: the measured keys among those passed are counted.
-- Assumes nothing.
use lib.ListN.{length}
use Rattle.lists.proofs.Copying.{Counted}
use Rattle.image_parts.specs.Parts.{measured_at}
use Rattle.image_parts.proofs.count_measured.Given as goal

abbrev pub invariant-loop-i : goal.invariant-loop-i
invariant-loop-i l = Counted (measured_at l.tags) l.sorted (length l.sorted) l.many l.i-index
