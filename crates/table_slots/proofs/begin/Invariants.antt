-- `table_slots::begin` meets its contract. The loop's invariant: the skips of the slots passed are their own numbers. Assumes nothing.
use mathlib.Core.Path.{◌≡◌}
use Prim.Native.Nat.{ℕ, ◌<◌}
use lib.ListN.{length, get_or}
use Rattle.table_slots.proofs.begin.Given as goal

abbrev pub invariant-loop-slot : goal.invariant-loop-slot
invariant-loop-slot l = (length l.skip ≡ length l.initial.skip) × ((s : ℕ) → s < l.slot → get_or l.skip s 0 ≡ s)
