-- `table_slots::first_empty` meets its contract. The loop's invariant: from here on the same slot is the first empty one. Assumes nothing.
use mathlib.Core.Path.{◌≡◌}
use Prim.Native.Nat.{◌<◌}
use lib.ListN.{length}
use Rattle.treap.specs.Slots.{first_empty}
use Rattle.table_slots.specs.Skips.{Skips}
use Rattle.table_slots.proofs.Skipping.{taken_from}
use Rattle.table_slots.proofs.first_empty.Given as goal

abbrev pub invariant-loop-at : goal.invariant-loop-at
invariant-loop-at l = (l.at < length l.slots) × (first_empty l.slots l.at ≡ first_empty l.slots l.home) × (length l.skip ≡ length l.initial.skip) × Skips l.slots l.skip

abbrev pub decreases-loop-at : goal.decreases-loop-at
decreases-loop-at l = taken_from l.slots l.at
