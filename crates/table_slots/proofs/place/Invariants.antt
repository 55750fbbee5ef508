-- `table_slots::place` meets its contract. The loop's invariant: the first positions of the order are placed, and the skips hold. Assumes nothing.
use mathlib.Core.Path.{◌≡◌}
use lib.ListN.{length}
use Rattle.table_slots.specs.Skips.{Skips}
use Rattle.table_slots.proofs.Placed.{Placed}
use Rattle.table_slots.proofs.place.Given as goal

abbrev pub invariant-loop-i : goal.invariant-loop-i
invariant-loop-i l = (l.many ≡ length l.initial.slots) × (length l.skip ≡ length l.initial.skip) × Placed l.weights l.order (length l.initial.slots) l.slots l.i-index × Skips l.slots l.skip
