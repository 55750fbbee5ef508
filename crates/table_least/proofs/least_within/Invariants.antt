-- `table_least::least_within` meets its contract. The loop's invariant: the least key of the slots passed. Assumes nothing.
use Prim.Native.Nat.{◌≤◌}
use Rattle.table.specs.Contents.{keys_in}
use Rattle.table.specs.Table.{contents_of}
use Rattle.table_least.specs.LeastKey.{least_within, IsOrZero}
use Rattle.table_least.proofs.least_within.Given as goal

abbrev pub invariant-loop-slot : goal.invariant-loop-slot
invariant-loop-slot l = (l.slot ≤ l.many) × IsOrZero l.least (least_within l.low l.high (keys_in (contents_of l.slot l.table)))
