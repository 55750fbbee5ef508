-- `priority::Constants::priorities` meets its contract. The loop's invariant: the first `i` entries of `output` are replaced.
-- Assumes nothing.
use mathlib.Core.Path.{◌≡◌}
use Prim.Native.Nat.{◌≤◌}
use lib.ListN.{length}
use Rattle.priority.specs.Priority.{priority_with}
use Rattle.lists.proofs.Replaced.{replaced}
use Rattle.priority.proofs.Constants.priorities.Given as goal

abbrev pub invariant-loop-i : goal.invariant-loop-i
invariant-loop-i l = (l.i ≤ length l.keys)
    × (l.i-end ≡ length l.keys)
    × (length l.output ≡ length l.initial.output)
    × (l.output ≡ replaced (priority_with l.salt) l.keys l.initial.output l.i)
